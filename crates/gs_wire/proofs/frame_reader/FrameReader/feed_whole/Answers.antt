use Rattle.std.proofs.Common.{rules, arith, ◌≡◌, ℕ, List, [], ◌∷◌, Option, inl, refl, sym, ap, append-nil, length}
use Rattle.gs_wire.proofs.FrameLists.{only_adds}
use Rattle.gs_wire.proofs.frame_reader.FrameReader.feed_whole.Goals as goal

no_bytes : (xs : List ℕ) → length xs ≡ 0 → xs ≡ []
no_bytes [] h = refl
no_bytes (x ∷ xs) h = absurd (omega arith)

-- a reader that holds nothing and is fed nothing holds nothing
pub returns-then-is_empty : goal.returns-then-is_empty
returns-then-is_empty c =
    let old = c.args.self.now in
    let none : length c.args.piece.now ≡ 0 = search rules in
    only_adds old old c.args.piece.now c.args.rpcs.now.items c.args.rpcs.now.items _ refl (record {
      held = [];
      was_held = c.requires;
      found = [];
      rest = [];
      stream = record { front = []; parts = no_bytes c.args.piece.now none; frames = refl; goes_on = inl (omega arith, tt) };
      added = sym (append-nil c.args.rpcs.now.items);
      keeps = ap (λ (held : Option (List ℕ)). record { limit = old.limit; held = held }) c.requires;
    })
