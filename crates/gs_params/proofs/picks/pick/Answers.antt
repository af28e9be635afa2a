use Rattle.std.proofs.Common.{◌≡◌, refl, sym, ◌∙◌}
use Rattle.gs_params.specs.Picks.{next_words, shuffled}
use Rattle.gs_params.proofs.Picking.{picked_all, picked_all_words, picked_some, picked_some_words, picked_is_sample}
use Rattle.gs_params.proofs.picks.pick.Goals as goal

pub returns-then-candidates-k-clause-picked : goal.returns-then-candidates-k-clause-picked
returns-then-candidates-k-clause-picked g c =
    let copied : c.in_ok-chosen.chosen.items ≡ c.args.candidates.now = c.in_ok-chosen.ensures.items_if_clones_equal (λ x y h. h) in
    rw copied (sym (picked_all g.W.Words.word g.W.Words.after c.args.k c.args.candidates.now c.args.words.now c.if-candidates-k.true))

pub returns-then-candidates-k-clause-sample : goal.returns-then-candidates-k-clause-sample
returns-then-candidates-k-clause-sample g c = rw (returns-then-candidates-k-clause-picked g c) (picked_is_sample g.W.Words.word g.W.Words.after c.args.k c.args.candidates.now c.args.words.now c.requires)

pub returns-then-candidates-k-clause-words : goal.returns-then-candidates-k-clause-words
returns-then-candidates-k-clause-words g c = sym (picked_all_words g.W.Words.word g.W.Words.after c.args.k c.args.candidates.now c.args.words.now c.if-candidates-k.true)

pub returns-clause-picked : goal.returns-clause-picked
returns-clause-picked g c =
    let copied : c.in_ok-chosen.chosen.items ≡ c.args.candidates.now = c.in_ok-chosen.ensures.items_if_clones_equal (λ x y h. h) in
    let placed : c.in_ok-places.places.items ≡ c.args.candidates.now = c.in_ok-places.ensures.items_if_clones_equal (λ x y h. h) in
    let moved : c.shuffle.new.places.items ≡ shuffled 0 (next_words g.W.Words.word g.W.Words.after c.args.k c.args.words.now) c.args.candidates.now = rw (c.shuffle.ensures.places, placed) refl in
    rw (c.keep.ensures, c.deref.ensures.value, c.truncate.ensures.items, moved, copied) (sym (picked_some g.W.Words.word g.W.Words.after c.args.k c.args.candidates.now c.args.words.now c.if-candidates-k.false))

pub returns-clause-sample : goal.returns-clause-sample
returns-clause-sample g c = rw (returns-clause-picked g c) (picked_is_sample g.W.Words.word g.W.Words.after c.args.k c.args.candidates.now c.args.words.now c.requires)

pub returns-clause-words : goal.returns-clause-words
returns-clause-words g c = c.shuffle.ensures.words ∙ sym (picked_some_words g.W.Words.word g.W.Words.after c.args.k c.args.candidates.now c.args.words.now c.if-candidates-k.false)
