-- A reader that sees the entries of a round, one after the other.
use Rattle.std.proofs.Common.{◌≡◌, ◌<◌, suc, Bool, true, false, List, [], ◌∷◌, ◌++◌, drop, length, map, reverse, refl, sym, ap, ◌∙◌, arith, append-nil, append_assoc}
use Rattle.std.proofs.lemmas.List.{map-append}
use Rattle.std.specs.Prelude.{None}
use Rattle.gs_router.specs.declared.follower.Followed.{Followed}
use Rattle.gs_router.specs.declared.follower.Follower.{Follower}
use Rattle.gs_router.specs.Following.{Advances, Follows, GoesOn, Reading}
use Rattle.gs_trace.specs.Lines.{Seen, ends_round, seen}
use Rattle.gs_trace.specs.Starts.{Sees, after_round, entry_of, left_in, of_round}

-- the entries so far are of the round
pub record Reads (is_last : Bool) (v : Reading) (list : List Followed) (f : Follower) : Type 0 where
  pub next : Reading
  pub follows : Follows f next
  pub peer : next.peer ≡ v.peer
  pub taken : of_round is_last (left_in v) ≡ map entry_of list ++ of_round is_last (left_in next)
  pub left : after_round is_last (left_in v) ≡ after_round is_last (left_in next)

pub begun : (is_last : Bool) (v : Reading) (f : Follower) → Follows f v → Reads is_last v [] f
begun is_last v f follows = record { next = v; follows = follows; peer = refl; taken = refl; left = refl }

none_taken : (is_last : Bool) → of_round is_last [] ≡ []
none_taken true = refl
none_taken false = refl

none_left : (is_last : Bool) → after_round is_last [] ≡ []
none_left true = refl
none_left false = refl

-- an entry, and those after it
after_one : {v : Reading} {followed : Followed} {f : Follower} (a : Advances v followed f)
    → left_in v ≡ entry_of followed ∷ seen v.peer (followed.entry.now ∷ v.before) a.rest
after_one {v = v} {followed = followed} a =
    ap (seen v.peer v.before) a.next
    ∙ (λ i. (followed.entry.now, sym a.fallen i) ∷ seen v.peer (followed.entry.now ∷ v.before) a.rest)

-- fewer are left after it
pub shorter : {v : Reading} {followed : Followed} {f f' : Follower} → Follows f v → Advances v followed f'
    → length (drop f'.place (reverse f'.trace.now)) < length (drop f.place (reverse f.trace.now))
shorter {v = v} {followed = followed} {f = f} {f' = f'} follows a =
    let before : length (drop f.place (reverse f.trace.now)) ≡ suc (length a.rest) = ap length (sym follows.left ∙ a.next) in
    let after : length (drop f'.place (reverse f'.trace.now)) ≡ length a.rest = ap length (sym a.follows.left) in
    omega (arith, before, after)

module _ {is_last : Bool} {v : Reading} {list : List Followed} {f : Follower} (reads : Reads is_last v list f) where
  -- no entry is left
  pub at_end : {f' : Follower} → GoesOn reads.next None f' → Sees is_last v list f'
  at_end (none, follows) =
      let nothing : left_in reads.next ≡ [] = ap (seen reads.next.peer reads.next.before) none in
      record {
        next = reads.next;
        follows = follows;
        peer = reads.peer;
        taken = sym (reads.taken
            ∙ ap (λ (xs : List Seen). map entry_of list ++ of_round is_last xs) nothing
            ∙ ap (λ (xs : List Seen). map entry_of list ++ xs) (none_taken is_last)
            ∙ append-nil (map entry_of list));
        left = nothing ∙ sym (none_left is_last) ∙ ap (after_round is_last) (sym nothing) ∙ sym reads.left;
      }

  module _ {followed : Followed} {f' : Follower} (a : Advances reads.next followed f') where
    abbrev onward : Reading
    onward = record { peer = reads.next.peer; before = followed.entry.now ∷ reads.next.before; left = a.rest }

    -- the entry is not the last one
    pub one_more : ((xs : List Seen) → of_round is_last (entry_of followed ∷ xs) ≡ entry_of followed ∷ of_round is_last xs)
        → ((xs : List Seen) → after_round is_last (entry_of followed ∷ xs) ≡ after_round is_last xs)
        → Reads is_last v (list ++ followed ∷ []) f'
    one_more taken left = record {
      next = onward;
      follows = a.follows;
      peer = reads.peer;
      taken = reads.taken
          ∙ ap (λ (xs : List Seen). map entry_of list ++ of_round is_last xs) (after_one a)
          ∙ ap (λ (xs : List Seen). map entry_of list ++ xs) (taken (left_in onward))
          ∙ sym (append_assoc (map entry_of list) (entry_of followed ∷ []) (of_round is_last (left_in onward)))
          ∙ ap (λ (xs : List Seen). xs ++ of_round is_last (left_in onward)) (sym (map-append entry_of list (followed ∷ [])));
      left = reads.left ∙ ap (after_round is_last) (after_one a) ∙ left (left_in onward);
    }

    -- it is the last one
    pub last_one : ((xs : List Seen) → of_round is_last (entry_of followed ∷ xs) ≡ entry_of followed ∷ [])
        → ((xs : List Seen) → after_round is_last (entry_of followed ∷ xs) ≡ xs)
        → Sees is_last v (list ++ followed ∷ []) f'
    last_one taken left = record {
      next = onward;
      follows = a.follows;
      peer = reads.peer;
      taken = sym (reads.taken
          ∙ ap (λ (xs : List Seen). map entry_of list ++ of_round is_last xs) (after_one a)
          ∙ ap (λ (xs : List Seen). map entry_of list ++ xs) (taken (left_in onward))
          ∙ sym (map-append entry_of list (followed ∷ [])));
      left = sym (reads.left ∙ ap (after_round is_last) (after_one a) ∙ left (left_in onward));
    }

-- ---- whether an entry is the last one

pub goes_on : (is_last : Bool) (x : Seen) (xs : List Seen) → ends_round x ≡ false → of_round is_last (x ∷ xs) ≡ x ∷ of_round is_last xs
goes_on true x xs other = refl
goes_on false x xs other = rw other refl

pub goes_on_after : (is_last : Bool) (x : Seen) (xs : List Seen) → ends_round x ≡ false → after_round is_last (x ∷ xs) ≡ after_round is_last xs
goes_on_after true x xs other = refl
goes_on_after false x xs other = rw other refl

pub ends : (x : Seen) (xs : List Seen) → ends_round x ≡ true → of_round false (x ∷ xs) ≡ x ∷ []
ends x xs same = rw same refl

pub ends_after : (x : Seen) (xs : List Seen) → ends_round x ≡ true → after_round false (x ∷ xs) ≡ xs
ends_after x xs same = rw same refl
