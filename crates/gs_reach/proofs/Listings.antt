-- What is listed of each peer while a run goes on, and of all peers when it has ended.
use Rattle.std.proofs.Common.{◌≡◌, ◌++◌, ◌∙◌, ℕ, zero, suc, ◌+◌, ◌<◌, ◌≤◌, true, false, nat_eq, List, [], ◌∷◌, map, reverse, length, get_or, set, take, refl, sym, ap, ap₂, arith}
use Rattle.std.specs.List.{flat_map, range_with_len, AllByRecursion}
use Rattle.std.proofs.lemmas.Bool.{cond-true, cond-false}
use Rattle.std.proofs.lemmas.Bool.Decides.{nat_tests}
use Rattle.std.proofs.lemmas.List.{flat_map_more, length-map, map_push, reverse-append, reverse-reverse, set_past, take_more}
use Rattle.std.proofs.lemmas.List.Concat.{flat_map-append}
use Rattle.std.proofs.lemmas.List.FromFn.{length-range_with_len, map-range_with_len_more}
use Rattle.gs_base.specs.declared.names.PeerNo.{PeerNo}
use Rattle.gs_base.specs.Names.{same_peer}
use Rattle.gs_plan.specs.declared.plan.Plan.{Plan}
use Rattle.gs_rules.specs.Tables.{Entries, lost}
use Rattle.gs_rules.specs.declared.trace.Entry.{Entry}
use Rattle.gs_report.specs.declared.finished.Finished.{Finished}
use Rattle.gs_report.specs.declared.report.Report.{Report}
use Rattle.gs_report.specs.Seen.{AreLives, added, numbers_below}
use Rattle.gs_reach.specs.declared.listed.Appearance.{Appearance}
use Rattle.gs_reach.specs.declared.listed.Change.{Change}
use Rattle.gs_reach.specs.declared.listed.Listed.{Listed}
use Rattle.gs_reach.specs.declared.listed.Loss.{Loss}
use Rattle.gs_reach.specs.declared.messages.MessageReach.{MessageReach}
use Rattle.gs_reach.specs.Listed.{changed_by, delivered_by, joined, listed, listed_by, loss_of, published_by}
use Rattle.gs_reach.specs.Messages.{messages, messages_by, numbers_of}

-- ---- what is listed is its four lists

abbrev four : List Appearance → List Appearance → List Change → List Loss → Listed
four p d c l = record { published = p; delivered = d; changes = c; losses = l }

pub same_listed : (x y : Listed) → x.published ≡ y.published → x.delivered ≡ y.delivered → x.changes ≡ y.changes → x.losses ≡ y.losses → x ≡ y
same_listed x y p d c l =
    ap₂ (λ (ps ds : List Appearance). four ps ds x.changes x.losses) p d
    ∙ ap₂ (λ (cs : List Change) (ls : List Loss). four y.published y.delivered cs ls) c l

-- ---- one more peer that ended

module _ {X : Type 0} (f : PeerNo → Entry → List X) where
  abbrev said_at : PeerNo × Finished → List X
  said_at x = flat_map (f x.0) (reverse x.1.trace)

  pub next_said : (peers : List (PeerNo × Finished)) (i : ℕ) (x : PeerNo × Finished) (entries : List Entry) (old new : List X)
      → i < length peers → x ≡ get_or peers i x → reverse entries ≡ x.1.trace
      → new ≡ old ++ flat_map (f x.0) entries → old ≡ flat_map said_at (take i peers)
      → new ≡ flat_map said_at (take (i + 1) peers)
  next_said peers i x entries old new below is turned more was =
      more
      ∙ ap₂ (λ (ys zs : List X). ys ++ zs) was (ap (flat_map (f x.0)) (sym (reverse-reverse entries) ∙ ap reverse turned))
      ∙ flat_map_more said_at [] (take i peers) x
      ∙ ap (flat_map said_at) (sym (take_more peers i x below ∙ ap (λ (y : PeerNo × Finished). take i peers ++ y ∷ []) (sym is)))

-- ---- more entries of a peer

more : {X : Type 0} (f : Entry → List X) (entries trace : List Entry)
    → flat_map f (reverse (reverse entries ++ trace)) ≡ flat_map f (reverse trace) ++ flat_map f entries
more f entries trace =
    ap (flat_map f) (reverse-append (reverse entries) trace ∙ ap (λ (es : List Entry). reverse trace ++ es) (reverse-reverse entries))
    ∙ flat_map-append f (reverse trace) entries

listed_more : (p : PeerNo) (entries trace : List Entry) (x y : Listed) → x ≡ listed_by p trace
    → y.published ≡ x.published ++ flat_map (λ (e : Entry). published_by p e.at e.event) entries
    → y.delivered ≡ x.delivered ++ flat_map (λ (e : Entry). delivered_by p e.at e.effects.delivered) entries
    → y.changes ≡ x.changes ++ flat_map (λ (e : Entry). changed_by p e.at e.event) entries
    → y.losses ≡ x.losses ++ flat_map (λ (e : Entry). loss_of p e.at (lost e.event)) entries
    → y ≡ listed_by p (reverse entries ++ trace)
listed_more p entries trace x y was published delivered changes losses =
    same_listed y (listed_by p (reverse entries ++ trace))
    (published ∙ ap (λ (l : Listed). l.published ++ flat_map (λ (e : Entry). published_by p e.at e.event) entries) was
    ∙ sym (more (λ (e : Entry). published_by p e.at e.event) entries trace))
    (delivered ∙ ap (λ (l : Listed). l.delivered ++ flat_map (λ (e : Entry). delivered_by p e.at e.effects.delivered) entries) was
    ∙ sym (more (λ (e : Entry). delivered_by p e.at e.effects.delivered) entries trace))
    (changes ∙ ap (λ (l : Listed). l.changes ++ flat_map (λ (e : Entry). changed_by p e.at e.event) entries) was
    ∙ sym (more (λ (e : Entry). changed_by p e.at e.event) entries trace))
    (losses ∙ ap (λ (l : Listed). l.losses ++ flat_map (λ (e : Entry). loss_of p e.at (lost e.event)) entries) was
    ∙ sym (more (λ (e : Entry). loss_of p e.at (lost e.event)) entries trace))

-- ---- one of the peers changes

abbrev number : ℕ → PeerNo
number n = record { 0 = n }

apart : (j n : ℕ) → j < n → nat_eq j n ≡ false
apart j n below = grind (arith, nat_tests)

above : (j n : ℕ) → n < j → nat_eq j n ≡ false
above j n below = grind (arith, nat_tests)

itself : (n : ℕ) → nat_eq n n ≡ true
itself n = grind (arith, nat_tests)

module _ {R : Type 0} (before after : PeerNo → R) (j : PeerNo) (others : (q : PeerNo) → same_peer j q ≡ false → after q ≡ before q) where
  untouched : (a n : ℕ) → j.0 < a → map before (map number (range_with_len a n)) ≡ map after (map number (range_with_len a n))
  untouched a zero below = refl
  untouched a (suc n) below =
      ap₂ (λ (x : R) (xs : List R). x ∷ xs) (sym (others (number a) (apart j.0 a below))) (untouched (a + 1) n (omega (arith, below)))

  set_from : (a n k : ℕ) (x : R) → a + k ≡ j.0 → x ≡ after j
      → set (map before (map number (range_with_len a n))) k x ≡ map after (map number (range_with_len a n))
  set_from a zero k x is so = refl
  set_from a (suc n) zero x is so =
      let here : j.0 ≡ a = omega (arith, is) in
      ap₂ (λ (x : R) (xs : List R). x ∷ xs) (so ∙ ap (λ (n : ℕ). after (number n)) here) (untouched (a + 1) n (omega (arith, is)))
  set_from a (suc n) (suc k) x is so =
      ap₂ (λ (x : R) (xs : List R). x ∷ xs) (sym (others (number a) (above j.0 a (omega (arith, is))))) (set_from (a + 1) n k x (omega (arith, is)) so)

  set_there : (count : ℕ) (x : R) → x ≡ after j → set (map before (numbers_below count)) j.0 x ≡ map after (numbers_below count)
  set_there count x so = set_from 0 count j.0 x (omega arith) so

module _ {R : Type 0} (f : PeerNo → R) where
  get_from : (a n k : ℕ) (p : PeerNo) (d : R) → a + k ≡ p.0 → k < n → get_or (map f (map number (range_with_len a n))) k d ≡ f p
  get_from a zero k p d is below = absurd (omega (arith, below))
  get_from a (suc n) zero p d is below = let here : a ≡ p.0 = omega (arith, is) in ap (λ (n : ℕ). f (number n)) here
  get_from a (suc n) (suc k) p d is below = get_from (a + 1) n k p d (omega (arith, is)) (omega (arith, below))

  one_more : (n : ℕ) → map f (numbers_below (n + 1)) ≡ map f (numbers_below n) ++ f (number n) ∷ []
  one_more n = ap (map f) (map-range_with_len_more number 0 n n (omega arith)) ∙ map_push f (map number (range_with_len 0 n)) (number n)

  counted : (count : ℕ) → length (map f (numbers_below count)) ≡ count
  counted count = length-map (numbers_below count) f ∙ length-map (range_with_len 0 count) number ∙ length-range_with_len 0 count

-- a peer with what its trace says
abbrev part : (PeerNo → Entries) → PeerNo → PeerNo × Listed
part traces p = (p, listed_by p (traces p))

-- one more peer that has done nothing
pub new_more : (n : ℕ) (l : Listed) (items news : List (PeerNo × Listed)) → items ≡ map (part (λ p. [])) (numbers_below n)
    → l ≡ record { published = []; delivered = []; changes = []; losses = [] } → news ≡ items ++ (number n, l) ∷ []
    → news ≡ map (part (λ p. [])) (numbers_below (n + 1))
new_more n l items news were empty are =
    are
    ∙ ap₂ (λ (xs : List (PeerNo × Listed)) (m : Listed). xs ++ (number n, m) ∷ []) were empty
    ∙ sym (one_more (part (λ p. [])) n)

module _ (before after : PeerNo → Entries) (p : PeerNo) (entries : List Entry) (add : (q : PeerNo) → after q ≡ added before p entries q) where
  other_parts : (q : PeerNo) → same_peer p q ≡ false → part after q ≡ part before q
  other_parts q other =
      ap (λ (es : List Entry). (q, listed_by q es)) (add q ∙ cond-false (same_peer p q) (reverse entries ++ before q) (before q) other)

  pub seen : (count : ℕ) (items news : List (PeerNo × Listed)) (x y : PeerNo × Listed)
      → items ≡ map (part before) (numbers_below count)
      → p.0 < length items → x ≡ get_or items p.0 x → y.0 ≡ x.0
      → y.1.published ≡ x.1.published ++ flat_map (λ (e : Entry). published_by p e.at e.event) entries
      → y.1.delivered ≡ x.1.delivered ++ flat_map (λ (e : Entry). delivered_by p e.at e.effects.delivered) entries
      → y.1.changes ≡ x.1.changes ++ flat_map (λ (e : Entry). changed_by p e.at e.event) entries
      → y.1.losses ≡ x.1.losses ++ flat_map (λ (e : Entry). loss_of p e.at (lost e.event)) entries
      → news ≡ set items p.0 y
      → news ≡ map (part after) (numbers_below count)
  seen count items news x y were below is same published delivered changes losses are =
      let many : length items ≡ count = ap length were ∙ counted (part before) count in
      let was : x ≡ part before p =
      is ∙ ap (λ (xs : List (PeerNo × Listed)). get_or xs p.0 x) were ∙ get_from (part before) 0 count p.0 p x (omega arith) (omega (arith, below, many)) in
      let now : after p ≡ reverse entries ++ before p = add p ∙ cond-true (same_peer p p) (reverse entries ++ before p) (before p) (itself p.0) in
      let more : y.1 ≡ listed_by p (reverse entries ++ before p) =
      listed_more p entries (before p) x.1 y.1 (ap (λ (z : PeerNo × Listed). z.1) was) published delivered changes losses in
      let so : y ≡ part after p =
      ap₂ (λ (q : PeerNo) (l : Listed). (q, l)) (same ∙ ap (λ (z : PeerNo × Listed). z.0) was) (more ∙ ap (λ (es : List Entry). listed_by p es) (sym now)) in
      are ∙ ap (λ (xs : List (PeerNo × Listed)). set xs p.0 y) were ∙ set_there (part before) (part after) p other_parts count y so

  -- a peer past the count changes nothing
  pub left_out : (count : ℕ) (items : List (PeerNo × Listed)) → items ≡ map (part before) (numbers_below count)
      → length items ≤ p.0 → items ≡ map (part after) (numbers_below count)
  left_out count items were past =
      sym (set_past items p.0 (part after p) past)
      ∙ ap (λ (xs : List (PeerNo × Listed)). set xs p.0 (part after p)) were
      ∙ set_there (part before) (part after) p other_parts count (part after p) refl

-- ---- when the run has ended

module _ (traces : PeerNo → Entries) where
  numbers_left : (ns : List PeerNo) → map (λ (x : PeerNo × Listed). x.0) (map (part traces) ns) ≡ ns
  numbers_left [] = refl
  numbers_left (n ∷ ns) = ap (λ (ms : List PeerNo). n ∷ ms) (numbers_left ns)

  all_said : {X : Type 0} (f : Listed → List X) (peers : List (PeerNo × Finished))
      → AllByRecursion (λ (x : PeerNo × Finished). x.1.trace ≡ traces x.0) peers
      → flat_map (λ (x : PeerNo × Listed). f x.1) (map (part traces) (map (λ (x : PeerNo × Finished). x.0) peers))
      ≡ flat_map (λ (x : PeerNo × Finished). f (listed_by x.0 x.1.trace)) peers
  all_said f [] same = refl
  all_said f (x ∷ xs) same =
      ap₂ (λ ys zs. ys ++ zs) (ap (λ (es : List Entry). f (listed_by x.0 es)) (sym same.0)) (all_said f xs same.1)

  all_listed : (peers : List (PeerNo × Finished)) → AllByRecursion (λ (x : PeerNo × Finished). x.1.trace ≡ traces x.0) peers
      → joined (map (part traces) (numbers_of peers)) ≡ listed peers
  all_listed peers same =
      same_listed (joined (map (part traces) (numbers_of peers))) (listed peers)
      (all_said (λ (l : Listed). l.published) peers same)
      (all_said (λ (l : Listed). l.delivered) peers same)
      (all_said (λ (l : Listed). l.changes) peers same)
      (all_said (λ (l : Listed). l.losses) peers same)

  pub told : (plan : Plan) (report : Report) (count : ℕ) (items : List (PeerNo × Listed)) (l : Listed) (numbers : List PeerNo) (list : List MessageReach)
      → items ≡ map (part traces) (numbers_below count) → AreLives count traces report.peers.items
      → l ≡ joined items → numbers ≡ map (λ (x : PeerNo × Listed). x.0) items → list ≡ messages_by plan l numbers
      → list ≡ messages plan report
  told plan report count items l numbers list were lives is are tells =
      let left : items ≡ map (part traces) (numbers_of report.peers.items) = were ∙ ap (map (part traces)) (sym lives.numbers) in
      tells
      ∙ ap₂ (λ (m : Listed) (ns : List PeerNo). messages_by plan m ns)
      (is ∙ ap joined left ∙ all_listed report.peers.items lives.same)
      (are ∙ ap (map (λ (x : PeerNo × Listed). x.0)) left ∙ numbers_left (numbers_of report.peers.items))
