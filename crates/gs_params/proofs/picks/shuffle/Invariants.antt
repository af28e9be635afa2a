use Rattle.std.proofs.Common.{◌≡◌, ◌-◌, length}
use Rattle.gs_params.specs.Picks.{next_words, after_words, shuffled}
use Rattle.gs_params.proofs.picks.shuffle.Given as goal

-- shuffling what is there by the words to come gives what shuffling all by all words gives
abbrev pub invariant-loop-i : goal.invariant-loop-i
invariant-loop-i g l = record {
  places : shuffled l.i (next_words g.W.Words.word g.W.Words.after (l.k - l.i) l.words) l.places.items ≡ shuffled 0 (next_words g.W.Words.word g.W.Words.after l.k l.fn.words) l.fn.places.items;
  len : length l.places.items ≡ length l.fn.places.items;
  words : after_words g.W.Words.word g.W.Words.after (l.k - l.i) l.words ≡ after_words g.W.Words.word g.W.Words.after l.k l.fn.words;
}
