use Rattle.std.proofs.Common.{◌≡◌, length, rules, sym, ◌∙◌}
use Rattle.std.proofs.lemmas.List.Edits.{length-swap}
use Rattle.gs_params.proofs.Shuffles.{shuffled_step, after_words_step, shuffled_end, after_words_end}
use Rattle.gs_params.proofs.picks.shuffle.Goals as goal

pub loop-i-preserved : goal.loop-i-preserved
loop-i-preserved g c =
    let n : c.len.result ≡ length c.loop-i.places.items = search rules in
    record {
      places = rw (c.swap.ensures.items, c.next_word-word.ensures.word, c.next_word-word.ensures.state, n) (sym (shuffled_step g.W.Words.word g.W.Words.after c.args.k c.loop-i.i c.loop-i.words c.loop-i.places.items c.loop-i-test.true) ∙ c.loop-i.invariant.places);
      len = rw c.swap.ensures.items (length-swap c.loop-i.places.items _ _ ∙ c.loop-i.invariant.len);
      words = rw c.next_word-word.ensures.state (sym (after_words_step g.W.Words.word g.W.Words.after c.args.k c.loop-i.i c.loop-i.words c.loop-i-test.true) ∙ c.loop-i.invariant.words);
    }

pub returns-clause-places : goal.returns-clause-places
returns-clause-places g c = sym (shuffled_end g.W.Words.word g.W.Words.after c.args.k c.loop-i.i c.loop-i.words c.loop-i.places.items c.loop-i-test.false) ∙ c.loop-i.invariant.places

pub returns-clause-words : goal.returns-clause-words
returns-clause-words g c = sym (after_words_end g.W.Words.word g.W.Words.after c.args.k c.loop-i.i c.loop-i.words c.loop-i-test.false) ∙ c.loop-i.invariant.words
