-- The table of messages that were seen, after the marks of one entry.
use Rattle.std.proofs.Common.{◌≡◌, ◌≤◌, ◌<◌, ◌+◌, arith, ℕ, Bool, true, false, if◌then◌else◌, List, [], ◌∷◌, ◌++◌, Option, Some, None, is_some, option_map, length, take, get_or, refl, sym, ap, subst, ◌∙◌}
use Rattle.std.specs.Prelude.{◌-◌, ◌||◌, ◌&&◌, not, nat_lt, nat_le}
use Rattle.std.specs.List.{list_any}
use Rattle.std.specs.Map.{lookup}
use Rattle.std.proofs.lemmas.List.{take_more}
use Rattle.std.proofs.lemmas.List.Folds.{list_any-append}
use Rattle.gs_base.specs.declared.names.PeerNo.{PeerNo}
use Rattle.gs_base.specs.declared.names.MsgId.{MsgId}
use Rattle.gs_base.specs.declared.names.Millis.{Millis}
use Rattle.gs_base.specs.declared.mark.Mark.{Mark}
use Rattle.gs_base.specs.declared.mark.Mark.TheVariants.{Seen}
use Rattle.gs_base.specs.declared.verdict.Verdict.{Verdict}
use Rattle.gs_base.specs.Names.{same_id, same_peer}
use Rattle.gs_cache.specs.declared.seen.sighting.Sighting.{Sighting as Found}
use Rattle.gs_cache.specs.Sightings.{ChangesBy, is_near_in, is_noted, sighted, verdict_in, what_counts, with_noted}
use Rattle.gs_cache.specs.Sightings as cache
use Rattle.gs_rules.specs.declared.trace.Entry.{Entry}
use Rattle.gs_rules.specs.Tables.{Entries, Sighting, after_marks, counting, last_moment, last_seen, seen, sighting_after}
use Rattle.gs_rules.specs.Meshes.{noted, notes, sees}
use Rattle.gs_rules.specs.Outcomes.{is_soon}
use Rattle.gs_router.specs.declared.tables.sightings.Sightings.{Sightings}
use Rattle.gs_router.specs.Tables.{AgreesOnSightings, NeighbourSighting, PassesOn, Sees, neighbour_sighting, neighbour_sighting_after, neighbour_sighting_in, noted_if, sighting_noted, still}
use Rattle.gs_router.proofs.Keeping.{marks_more}
use Rattle.gs_router.proofs.Meshing.{one_peer}
use Rattle.gs_router.proofs.Noting.{or_false, or_true}

-- ---- what counts of a message, as seen from a neighbour

abbrev told_from : PeerNo → Option Found → Option NeighbourSighting
told_from q o = option_map (λ (s : Found). record { at = s.at.0; verdict = s.verdict; noted = is_noted q s }) o

-- what counts at a moment counts then
counts_still : (ttl now : ℕ) (o : Option Found) → cache.counting ttl now (cache.counting ttl now o) ≡ cache.counting ttl now o
counts_still ttl now None = refl
counts_still ttl now (Some s) = by (nat_lt (now - s.at.0) ttl) refl
  where
    by : (b : Bool) → nat_lt (now - s.at.0) ttl ≡ b → cache.counting ttl now (if b then Some s else None) ≡ (if b then Some s else None)
    by true is = ap (λ (b : Bool). if b then Some s else None) is
    by false is = refl

-- where no mark says that a neighbour passed it on, nothing changes
pub noted_nothing : (o : Option NeighbourSighting) → noted_if false o ≡ o
noted_nothing None = refl
noted_nothing (Some s) = refl

-- ---- one mark

abbrev fresh : Millis → Verdict → Found
fresh at verdict = record { at = at; verdict = verdict; noted = [] }

-- a message is marked as seen
pub marked : (old new : Sightings) (at : Millis) (id : MsgId) (verdict : Verdict) → ChangesBy (sighted id at verdict) at.0 old.cache new.cache → new.cache.moment ≡ at.0
    → (other : MsgId) (q : PeerNo) (now : ℕ) → new.cache.moment ≤ now → neighbour_sighting new other q now ≡ neighbour_sighting_after old.cache.ttl now other at.0 (Seen id verdict) (neighbour_sighting old other q now)
marked old new at id verdict changes moment other q now below = ap (told_from q) (changes other now (omega (arith, moment, below))) ∙ by (same_id id other)
  where
    anew : (b : Bool) → told_from q (if b then Some (fresh at verdict) else None) ≡ (if b then Some (record { at = at.0; verdict = verdict; noted = false }) else None)
    anew true = refl
    anew false = refl

    by : (same : Bool) → told_from q (cache.counting old.cache.ttl now (if same then Some (fresh at verdict) else what_counts old.cache other now))
        ≡ (if same then still old.cache.ttl now (Some (record { at = at.0; verdict = verdict; noted = false })) else neighbour_sighting old other q now)
    by true = anew (nat_lt (now - at.0) old.cache.ttl)
    by false = ap (told_from q) (counts_still old.cache.ttl now (lookup (same_id other) old.cache.sightings))

-- of several neighbours that are noted, one is this one
is_noted_then : (p q : PeerNo) (noted : List PeerNo) → list_any (λ other. same_peer other q) (if list_any (λ other. same_peer other p) noted then noted else noted ++ p ∷ []) ≡ (same_peer p q || list_any (λ other. same_peer other q) noted)
is_noted_then p q noted = by (list_any (λ other. same_peer other p) noted) refl (same_peer p q) refl
  where
    by : (b : Bool) → list_any (λ other. same_peer other p) noted ≡ b → (c : Bool) → same_peer p q ≡ c
        → list_any (λ other. same_peer other q) (if b then noted else noted ++ p ∷ []) ≡ (c || list_any (λ other. same_peer other q) noted)
    by true is true same = ap (λ (r : PeerNo). list_any (λ other. same_peer other r) noted) (sym (one_peer p q same)) ∙ is
    by true is false same = refl
    by false is true same = list_any-append (λ other. same_peer other q) noted (p ∷ []) ∙ ap (λ (b : Bool). list_any (λ other. same_peer other q) noted || (b || false)) same ∙ or_true (list_any (λ other. same_peer other q) noted)
    by false is false same = list_any-append (λ other. same_peer other q) noted (p ∷ []) ∙ ap (λ (b : Bool). list_any (λ other. same_peer other q) noted || (b || false)) same ∙ or_false (list_any (λ other. same_peer other q) noted)

and_true : (b : Bool) → (b && true) ≡ b
and_true true = refl
and_true false = refl

and_false : (b : Bool) → (b && false) ≡ false
and_false true = refl
and_false false = refl

-- a neighbour is noted for a message
passed_on : (ttl now : ℕ) (p q : PeerNo) (o : Option Found)
    → told_from q (cache.counting ttl now (option_map (with_noted p) (cache.counting ttl now o))) ≡ noted_if (same_peer p q && true) (told_from q (cache.counting ttl now o))
passed_on ttl now p q None = refl
passed_on ttl now p q (Some s) = by (nat_lt (now - s.at.0) ttl) refl
  where
    by : (b : Bool) → nat_lt (now - s.at.0) ttl ≡ b
        → told_from q (cache.counting ttl now (option_map (with_noted p) (if b then Some s else None))) ≡ noted_if (same_peer p q && true) (told_from q (if b then Some s else None))
    by true is =
        ap (λ (b : Bool). told_from q (if b then Some (with_noted p s) else None)) is
        ∙ ap (λ (b : Bool). Some (record { at = s.at.0; verdict = s.verdict; noted = b })) (is_noted_then p q s.noted ∙ ap (λ (b : Bool). b || is_noted q s) (sym (and_true (same_peer p q))))
    by false is = refl

pub passes : (old new : Sightings) (id : MsgId) (p : PeerNo) → ChangesBy (cache.noted id p) old.cache.moment old.cache new.cache → new.cache.moment ≡ old.cache.moment
    → (other : MsgId) (q : PeerNo) (now : ℕ) → new.cache.moment ≤ now → neighbour_sighting new other q now ≡ noted_if (same_peer p q && same_id id other) (neighbour_sighting old other q now)
passes old new id p changes moment other q now below = ap (told_from q) (changes other now (omega (arith, moment, below))) ∙ by (same_id id other)
  where
    by : (same : Bool) → told_from q (cache.counting old.cache.ttl now (if same then option_map (with_noted p) (what_counts old.cache other now) else what_counts old.cache other now))
        ≡ noted_if (same_peer p q && same) (neighbour_sighting old other q now)
    by true = passed_on old.cache.ttl now p q (lookup (same_id other) old.cache.sightings)
    by false =
        ap (told_from q) (counts_still old.cache.ttl now (lookup (same_id other) old.cache.sightings))
        ∙ sym (ap (λ (b : Bool). noted_if b (neighbour_sighting old other q now)) (and_false (same_peer p q)) ∙ noted_nothing (neighbour_sighting old other q now))

-- ---- marks one by one

pub sees_nothing : (at : ℕ) (now : Sightings) → now.cache.moment ≤ at → Sees at [] now now
sees_nothing at now below = record {
  tells = λ id q t is. refl;
  later = omega arith;
  moment = below;
  ttl = refl;
}

pub sees_more : (at : ℕ) (marks : List Mark) (i : ℕ) (mark : Mark) (old now new : Sightings) → i < length marks → mark ≡ get_or marks i mark
    → ((id : MsgId) (q : PeerNo) (t : ℕ) → new.cache.moment ≤ t → neighbour_sighting new id q t ≡ neighbour_sighting_after now.cache.ttl t id at mark (neighbour_sighting now id q t))
    → now.cache.moment ≤ new.cache.moment → new.cache.moment ≤ at → new.cache.ttl ≡ now.cache.ttl
    → Sees at (take i marks) old now → Sees at (take (i + 1) marks) old new
sees_more at marks i mark old now new below is one later moment ttl seeing =
    subst (λ (ms : List Mark). Sees at ms old new) (sym (take_more marks i mark below ∙ ap (λ (x : Mark). take i marks ++ x ∷ []) (sym is)))
    (record {
      tells = λ id q t from.
          one id q t from
          ∙ ap (λ (n : ℕ). neighbour_sighting_after n t id at mark (neighbour_sighting now id q t)) seeing.ttl
          ∙ ap (neighbour_sighting_after old.cache.ttl t id at mark) (seeing.tells id q t (omega (arith, later, from)))
          ∙ sym (marks_more (neighbour_sighting_after old.cache.ttl t id at) (take i marks) mark (neighbour_sighting old id q t));
      later = omega (arith, later, seeing.later);
      moment = moment;
      ttl = ttl ∙ seeing.ttl;
    })

pub passes_nothing : (now : Sightings) → PassesOn [] now now
passes_nothing now = record {
  tells = λ id q t is. sym (noted_nothing (neighbour_sighting now id q t));
  moment = refl;
  ttl = refl;
}

noted_twice : (b c : Bool) (o : Option NeighbourSighting) → noted_if c (noted_if b o) ≡ noted_if (b || (c || false)) o
noted_twice b c None = refl
noted_twice b c (Some s) = ap (λ (n : Bool). Some (record { at = s.at; verdict = s.verdict; noted = n })) (by b c s.noted)
  where
    by : (b c n : Bool) → (c || (b || n)) ≡ ((b || (c || false)) || n)
    by true true n = refl
    by true false n = refl
    by false true n = refl
    by false false n = refl

pub passes_more : (marks : List Mark) (i : ℕ) (mark : Mark) (old now new : Sightings) → i < length marks → mark ≡ get_or marks i mark
    → ((id : MsgId) (q : PeerNo) (t : ℕ) → new.cache.moment ≤ t → neighbour_sighting new id q t ≡ noted_if (notes id q mark) (neighbour_sighting now id q t))
    → new.cache.moment ≡ now.cache.moment → new.cache.ttl ≡ now.cache.ttl
    → PassesOn (take i marks) old now → PassesOn (take (i + 1) marks) old new
passes_more marks i mark old now new below is one moment ttl passing =
    subst (λ (ms : List Mark). PassesOn ms old new) (sym (take_more marks i mark below ∙ ap (λ (x : Mark). take i marks ++ x ∷ []) (sym is)))
    (record {
      tells = λ id q t from.
          one id q t from
          ∙ ap (noted_if (notes id q mark)) (passing.tells id q t (omega (arith, moment, from)))
          ∙ noted_twice (list_any (notes id q) (take i marks)) (notes id q mark) (neighbour_sighting old id q t)
          ∙ ap (λ (b : Bool). noted_if b (neighbour_sighting old id q t)) (sym (list_any-append (notes id q) (take i marks) (mark ∷ [])));
      moment = moment ∙ passing.moment;
      ttl = ttl ∙ passing.ttl;
    })

-- ---- an entry

-- what marks leave of what counts is what counts of what they leave
seen_so : (ttl now : ℕ) (id : MsgId) (at : ℕ) (marks : List Mark) (noted : Bool) (before : Option Sighting)
    → after_marks (neighbour_sighting_after ttl now id at) marks (still ttl now (option_map (sighting_noted noted) before))
    ≡ still ttl now (option_map (sighting_noted (not (list_any (sees id) marks) && noted)) (after_marks (sighting_after id at) marks before))
seen_so ttl now id at [] noted before = refl
seen_so ttl now id at (Seen other verdict ∷ marks) noted before = by (same_id other id) (seen_so ttl now id at marks)
  where
    nobody : (b : Bool) → (not b && false) ≡ false
    nobody true = refl
    nobody false = refl

    by : (same : Bool)
        → ((noted : Bool) (was : Option Sighting) → after_marks (neighbour_sighting_after ttl now id at) marks (still ttl now (option_map (sighting_noted noted) was)) ≡ still ttl now (option_map (sighting_noted (not (list_any (sees id) marks) && noted)) (after_marks (sighting_after id at) marks was)))
        → after_marks (neighbour_sighting_after ttl now id at) marks (if same then still ttl now (Some (record { at = at; verdict = verdict; noted = false })) else still ttl now (option_map (sighting_noted noted) before))
        ≡ still ttl now (option_map (sighting_noted (not (same || list_any (sees id) marks) && noted)) (after_marks (sighting_after id at) marks (if same then Some (record { at = at; verdict = verdict }) else before)))
    by true so =
        so false (Some (record { at = at; verdict = verdict }))
        ∙ ap (λ (b : Bool). still ttl now (option_map (sighting_noted b) (after_marks (sighting_after id at) marks (Some (record { at = at; verdict = verdict }))))) (nobody (list_any (sees id) marks))
    by false so = so noted before
seen_so ttl now id at (other ∷ marks) noted before = seen_so ttl now id at marks noted before

-- who passed it on is noted for what counts
passed_so : (ttl now : ℕ) (b c : Bool) (o : Option Sighting) → noted_if b (still ttl now (option_map (sighting_noted c) o)) ≡ still ttl now (option_map (sighting_noted (b || c)) o)
passed_so ttl now b c None = refl
passed_so ttl now b c (Some s) = by (nat_lt (now - s.at) ttl)
  where
    by : (n : Bool) → noted_if b (if n then Some (sighting_noted c s) else None) ≡ (if n then Some (sighting_noted (b || c) s) else None)
    by true = refl
    by false = refl

-- the verdict of what counts
abbrev verdict_of : Option NeighbourSighting → Option Verdict
verdict_of o = option_map (λ (s : NeighbourSighting). s.verdict) o

verdict_from : (q : PeerNo) (o : Option Found) → verdict_in o ≡ verdict_of (told_from q o)
verdict_from q None = refl
verdict_from q (Some s) = refl

verdict_so : (ttl now : ℕ) (noted : Bool) (o : Option Sighting) → verdict_of (still ttl now (option_map (sighting_noted noted) o)) ≡ counting ttl now o
verdict_so ttl now noted None = refl
verdict_so ttl now noted (Some s) = by (nat_lt (now - s.at) ttl)
  where
    by : (n : Bool) → verdict_of (if n then Some (sighting_noted noted s) else None) ≡ (if n then Some s.verdict else None)
    by true = refl
    by false = refl

-- any neighbour
abbrev somebody : PeerNo
somebody = record { 0 = 0 }

-- all marks of an entry are noted
pub noted_all : (old now new : Sightings) (e : Entry) (L : Entries) (marks : List Mark) → marks ≡ e.effects.marks → Sees e.at.0 marks old now → PassesOn marks now new
    → AgreesOnSightings old L → AgreesOnSightings new (e ∷ L)
noted_all old now new e L marks are seeing passing agrees = record {
  sees = λ id t from.
      verdict_from somebody (what_counts new.cache id t)
      ∙ ap verdict_of (tells id somebody t from)
      ∙ verdict_so new.cache.ttl t (noted (e ∷ L) id somebody) (last_seen (e ∷ L) id);
  tells = tells;
  past = omega (arith, passing.moment, seeing.moment);
}
  where
    tells : (id : MsgId) (q : PeerNo) (t : ℕ) → new.cache.moment ≤ t → neighbour_sighting new id q t ≡ neighbour_sighting_in new.cache.ttl (e ∷ L) id q t
    tells id q t from =
        passing.tells id q t from
        ∙ ap (noted_if (list_any (notes id q) marks)) (
        seeing.tells id q t (omega (arith, passing.moment, from))
        ∙ ap (after_marks (neighbour_sighting_after old.cache.ttl t id e.at.0) marks) (agrees.tells id q t (omega (arith, passing.moment, seeing.later, from)))
        ∙ seen_so old.cache.ttl t id e.at.0 marks (noted L id q) (last_seen L id))
        ∙ passed_so old.cache.ttl t (list_any (notes id q) marks) (not (list_any (sees id) marks) && noted L id q) (after_marks (sighting_after id e.at.0) marks (last_seen L id))
        ∙ ap (λ (ms : List Mark). still old.cache.ttl t (option_map (sighting_noted (list_any (notes id q) ms || (not (list_any (sees id) ms) && noted L id q))) (after_marks (sighting_after id e.at.0) ms (last_seen L id)))) are
        ∙ ap (λ (ttl : ℕ). neighbour_sighting_in ttl (e ∷ L) id q t) (sym (passing.ttl ∙ seeing.ttl))

-- ---- whether a neighbour's delivery comes soon after the first, and is its first

abbrev near_told : ℕ → ℕ → Option NeighbourSighting → Bool
near_told now window None = false
near_told now window (Some s) = nat_le (now - s.at) window && not s.noted

near_from : (q : PeerNo) (now window : ℕ) (o : Option Found) → is_near_in q now window o ≡ near_told now window (told_from q o)
near_from q now window None = refl
near_from q now window (Some s) = refl

near_so : (ttl now window : ℕ) (noted : Bool) (o : Option Sighting) → is_some (counting ttl now o) ≡ true
    → near_told now window (still ttl now (option_map (sighting_noted noted) o)) ≡ (is_soon window now o && not noted)
near_so ttl now window noted None is = absurd cc
near_so ttl now window noted (Some s) is = by (nat_lt (now - s.at) ttl) is
  where
    by : (n : Bool) → is_some (if n then Some s.verdict else None) ≡ true → near_told now window (if n then Some (sighting_noted noted s) else None) ≡ (nat_le (now - s.at) window && not noted)
    by true is = refl
    by false is = absurd cc

nears : (kept : Sightings) (L : Entries) (id : MsgId) (q : PeerNo) (now window : ℕ) → AgreesOnSightings kept L → last_moment L ≤ now → is_some (seen kept.cache.ttl L id now) ≡ true
    → is_near_in q now window (what_counts kept.cache id now) ≡ (is_soon window now (last_seen L id) && not (noted L id q))
nears kept L id q now window agrees below is =
    near_from q now window (what_counts kept.cache id now)
    ∙ ap (near_told now window) (agrees.tells id q now (omega (arith, agrees.past, below)))
    ∙ near_so kept.cache.ttl now window (noted L id q) (last_seen L id) is

-- what counts of a message, as a look-up gave it
pub nears_so : (kept : Sightings) (L : Entries) (id : MsgId) (q : PeerNo) (now window : ℕ) (s : Found) → AgreesOnSightings kept L → last_moment L ≤ now → what_counts kept.cache id now ≡ Some s
    → is_near_in q now window (Some s) ≡ (is_soon window now (last_seen L id) && not (noted L id q))
nears_so kept L id q now window s agrees below is =
    ap (is_near_in q now window) (sym is)
    ∙ nears kept L id q now window agrees below (ap is_some (sym (agrees.sees id now (omega (arith, agrees.past, below))) ∙ ap verdict_in is))
