-- How the parts of an RPC are paid, one kind after the other.
use Rattle.std.proofs.Common.{◌≡◌, ◌<◌, ◌+◌, ◌∙◌, ◌++◌, ℕ, false, List, [], ◌∷◌, Result, Ok, Err, length, drop, refl, sym, ap, subst}
use Rattle.std.specs.Prelude.{IsErr, OnErr}
use Rattle.gs_base.specs.declared.names.PeerNo.{PeerNo}
use Rattle.gs_base.specs.declared.names.Millis.{Millis}
use Rattle.gs_base.specs.declared.rpc.Rpc.{Rpc}
use Rattle.gs_base.specs.Rpcs.{part_at}
use Rattle.gs_rules.specs.declared.event.Event.{Event}
use Rattle.gs_rules.specs.declared.event.Event.TheVariants.{Heard, Part}
use Rattle.gs_rules.specs.declared.event.RpcPart.{RpcPart}
use Rattle.gs_rules.specs.declared.event.RpcPart.TheVariants.{Sub}
use Rattle.gs_rules.specs.Parts.{after_subs, events_of}
use Rattle.gs_rules.specs.Scoring.{is_graylisted}
use Rattle.gs_rules.specs.Modes.{Mode}
use Rattle.gs_router.specs.Known.{peer_with}
use Rattle.gs_router.specs.declared.state.State.{State}
use Rattle.gs_router.specs.State.{IsCutShort, IsDue, Paying, Steps, WorkEnds}
use Rattle.gs_router.proofs.Steps.{hears_first, next_due, next_part, pays_next, pays_some}

-- the part at a place of a kind, which is this one, and those after it
module _ (m : Mode) (now : Millis) (q : PeerNo) {P : Type 0} (as_part : P → RpcPart) (bare : P) (list : List P) (after : List Event) (place : ℕ) (part : RpcPart) (below : place < length list) (is : part ≡ as_part (part_at bare list place)) where
  abbrev later : List Event
  later = events_of as_part q (drop (place + 1) list) ++ after

  first_is : events_of as_part q (drop place list) ++ after ≡ Part q part ∷ later
  first_is =
      ap (λ (xs : List P). events_of as_part q xs ++ after) (next_part bare list place (part_at bare list place) below refl)
      ∙ ap (λ (x : RpcPart). Part q x ∷ later) (sym is)

  first_left : {K : Type 0} (event : Event) (a b : State K) (s t : m.State) → Paying m now event a s b t (events_of as_part q (drop place list) ++ after) [] → Paying m now event a s b t (Part q part ∷ later) []
  first_left event a b s t h = subst (λ (left : List Event). Paying m now event a s b t left []) first_is h

  pub part_is_due : {K : Type 0} (event : Event) (a b : State K) (s t : m.State) → Paying m now event a s b t (events_of as_part q (drop place list) ++ after) [] → IsDue b now (Part q part)
  part_is_due event a b s t h = next_due m now event (Part q part) later [] a b s t (first_left event a b s t h)

  pub part_is_paid : {K : Type 0} {A E : Type 0} (event : Event) (a b c : State K) (s t u : m.State) (x : A) → Steps {A = A} {E = E} m (Part q part) now b t (Ok x) c u → Paying m now event a s b t (events_of as_part q (drop place list) ++ after) [] → Paying m now event a s c u later []
  part_is_paid event a b c s t u x steps h = pays_next m now event (Part q part) later [] a b c s t u x (first_left event a b s t h) refl steps

-- what holds anyway holds where a call fails
pub on_err : {A E : Type 0} {P : Type 0} (result : Result A E) → P → OnErr result P
on_err (Ok x) holds = tt
on_err (Err e) holds = holds

-- work that was cut short ends so
pub ends_short : {K A E : Type 0} {m : Mode} {now : Millis} {event : Event} {a c : State K} {s u : m.State} {done : Result A E} → IsErr done → IsCutShort m now event a s c → WorkEnds m event now a s done c u
ends_short {K} {A} {E} {m} {now} {event} {a} {c} {s} {u} {done} fails cut =
    pays_some m now event cut.left [] a cut.reached c s cut.words u done fails cut.paying cut.kept cut.setup

-- where an RPC was heard, all its parts are left
pub all_left : {K A E : Type 0} {m : Mode} {now : Millis} {q : PeerNo} {rpc copy : Rpc} {a b : State K} {s t : m.State} {x : A} → Steps {A = A} {E = E} m (Heard q copy) now a s (Ok x) b t → copy ≡ rpc → is_graylisted (peer_with a.known.setup) a.trace now.0 q ≡ false → Paying m now (Heard q rpc) a s b t (events_of Sub q rpc.subs ++ after_subs q rpc) []
all_left {K} {A} {E} {m} {now} {q} {rpc} {copy} {a} {b} {s} {t} {x} steps same listened =
    hears_first m now q rpc a b s t x listened (subst (λ (heard : Rpc). Steps {A = A} {E = E} m (Heard q heard) now a s (Ok x) b t) same steps)
