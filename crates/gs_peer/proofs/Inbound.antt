-- What is staged of each neighbour is what there is to hear of it.
use Rattle.std.proofs.Common.{◌≡◌, ◌≤◌, ℕ, zero, suc, Bool, true, false, not, ◌&&◌, ◌||◌, nat_eq, if◌then◌else◌, List, [], ◌∷◌, ◌++◌, length, map, Option, is_none, unwrap_or, refl, sym, ap, ap₂, subst, ◌∙◌, append-nil}
use Rattle.std.specs.List.{AllByRecursion, AllZip}
use Rattle.std.proofs.lemmas.Bool.{le-leb}
use Rattle.gs_base.specs.declared.names.PeerNo.{PeerNo}
use Rattle.gs_base.specs.declared.rpc.Rpc.{Rpc}
use Rattle.gs_base.specs.Tokens.{Said, bytes_of}
use Rattle.gs_wire.specs.declared.frames.End.{End}
use Rattle.gs_wire.specs.declared.frames.End.TheVariants as ends
use Rattle.gs_wire.specs.Messages.{body, longest_body}
use Rattle.gs_wire.specs.Stream.{HasRead, Holding, IsStream, held_after}
use Rattle.gs_wire.proofs.FrameLists.{one_stream}
use Rattle.gs_wire.proofs.Shorter.{stream_fits}
use Rattle.gs_rules.specs.Tables.{Entries}
use Rattle.gs_rules.specs.Saying.{handled}
use Rattle.gs_rules.specs.Hearing.{Inbound, bytes_before, silence}
use Rattle.gs_rules.specs.Rounds.{Seat, Phase, Playing, Closing, ComesAt, Todo, Hear, HearFault, HearGone, hears, hears_of, is_broken, is_fault}
use Rattle.gs_rules.proofs.Spelled.{no_stream}
use Rattle.gs_peer.specs.Inboxes.{InboxView, all_heard, heard_of, is_broken_off, peers_of}
use Rattle.gs_player.specs.Ended.{close_if}
use Rattle.gs_peer.specs.Kept.{InboxKept}
use Rattle.gs_player.specs.Playing.{RpcsFit}
use Rattle.gs_player.proofs.Words.{bytes_split, closes_after}

-- ---- one neighbour

-- what there is to hear of a neighbour whose inbox was read so
abbrev pub inbound_of : (x : InboxView) (bytes : List ℕ) (vs : List Rpc) → HasRead longest_body bytes x.reader vs → Inbound
inbound_of x bytes vs read = record { rpcs = x.stage; rest = read.rest; end = read.end; closes = x.is_closed }

no_bytes_behind : (closed : Bool) → bytes_of (close_if closed) ≡ []
no_bytes_behind true = refl
no_bytes_behind false = refl

-- in a round all bytes that were taken are of the rounds before
pub all_before : (seat : Seat) (r : ℕ) (L : Entries) (said : Said) (x : InboxView) → InboxKept seat (Playing r) L said x → bytes_of said ≡ bytes_before r said
all_before seat r L said x k =
    bytes_split r said ∙ ap (λ (bytes : List ℕ). bytes_before r said ++ bytes) (ap bytes_of k.rest ∙ no_bytes_behind x.is_closed) ∙ append-nil (bytes_before r said)

append_none : (xs ys : List Rpc) → xs ++ ys ≡ [] → ys ≡ []
append_none [] ys h = h
append_none (x ∷ xs) ys h = absurd cc

-- before the first round ends nothing is taken
nothing_yet : (seat : Seat) (L : Entries) (said : Said) (x : InboxView) (k : InboxKept seat (Playing zero) L said x) → inbound_of x (bytes_of said) (handled L x.peer ++ x.stage) k.read ≡ silence
nothing_yet seat L said x k =
    let runs : x.is_closed ≡ false = sym k.here in
    let none : said ≡ [] = k.rest ∙ ap close_if runs in
    let stream : IsStream longest_body [] (handled L x.peer ++ x.stage) k.read.rest k.read.end = subst (λ (w : Said). IsStream longest_body (bytes_of w) (handled L x.peer ++ x.stage) k.read.rest k.read.end) none k.read.stream in
    let same = one_stream longest_body [] (handled L x.peer ++ x.stage) [] k.read.rest [] k.read.end ends.Waits stream no_stream in
    λ i. record { rpcs = append_none (handled L x.peer) x.stage same.0 i; rest = same.1 i; end = same.2 i; closes = runs i }

pub comes_at : (seat : Seat) (phase : Phase) (L : Entries) (said : Said) (x : InboxView) (k : InboxKept seat phase L said x) → ComesAt seat phase said (inbound_of x (bytes_of said) (handled L x.peer ++ x.stage) k.read)
comes_at seat (Playing zero) L said x k = nothing_yet seat L said x k
comes_at seat (Playing (suc r)) L said x k = (
  record {
    earlier = handled L x.peer;
    spell_before = k.earlier;
    stream = subst (λ (bytes : List ℕ). IsStream longest_body bytes (handled L x.peer ++ x.stage) k.read.rest k.read.end) (all_before seat (suc r) L said x k) k.read.stream;
  },
  sym k.here,
)
comes_at seat Closing L said x k = (
  record { earlier = handled L x.peer; spell_before = k.earlier; stream = k.read.stream },
  sym (closes_after seat.rounds said ∙ k.closed),
)

-- how it ends
broken_by : (closed : Bool) (rest : List ℕ) (end : End) → (is_fault end || (closed && not (nat_eq (length rest) 0))) ≡ (is_none (held_after end rest) || (closed && not (nat_eq (length (unwrap_or (held_after end rest) [])) 0)))
broken_by closed rest ends.Waits = refl
broken_by closed rest ends.Malformed = refl
broken_by closed rest ends.TooLong = refl

pub heard_as : (x : InboxView) (bytes : List ℕ) (vs : List Rpc) (read : HasRead longest_body bytes x.reader vs) → heard_of x ≡ hears_of x.peer (inbound_of x bytes vs read)
heard_as x bytes vs read =
    let held : x.reader.held ≡ held_after read.end read.rest = ap (λ (r : Holding). r.held) read.holds in
    let broken : is_broken_off x ≡ is_broken (inbound_of x bytes vs read) =
    ap (λ (h : Option (List ℕ)). is_none h || (x.is_closed && not (nat_eq (length (unwrap_or h [])) 0))) held ∙ sym (broken_by x.is_closed read.rest read.end) in
    ap (λ (b : Bool). map (Hear x.peer) x.stage ++ (if b then HearFault x.peer ∷ [] else if x.is_closed then HearGone x.peer ∷ [] else [])) broken

-- ---- all of them

pub record AllCome (seat : Seat) (phase : Phase) (said : PeerNo → Said) (xs : List InboxView) : Type 0 where
  pub inbound : List Inbound
  pub was_said : AllZip (λ q x. ComesAt seat phase (said q) x) (peers_of xs) inbound
  pub heard : all_heard xs ≡ hears (peers_of xs) inbound

pub all_come : (seat : Seat) (phase : Phase) (L : Entries) (said : PeerNo → Said) (xs : List InboxView)
    → AllByRecursion (λ (x : InboxView). InboxKept seat phase L (said x.peer) x) xs
    → AllCome seat phase said xs
all_come seat phase L said [] k = record { inbound = []; was_said = tt; heard = refl }
all_come seat phase L said (x ∷ xs) k =
    let one = inbound_of x (bytes_of (said x.peer)) (handled L x.peer ++ x.stage) k.0.read in
    let rest = all_come seat phase L said xs k.1 in
    record {
      inbound = one ∷ rest.inbound;
      was_said = (comes_at seat phase L (said x.peer) x k.0, rest.was_said);
      heard = ap₂ (λ (todos more : List Todo). todos ++ more) (heard_as x (bytes_of (said x.peer)) (handled L x.peer ++ x.stage) k.0.read) rest.heard;
    }

-- ---- what is staged fits a frame

fit_behind : (xs ys : List Rpc) → AllByRecursion (λ rpc. length (body rpc) ≤ longest_body) (xs ++ ys) → RpcsFit ys
fit_behind [] [] h = tt
fit_behind [] (y ∷ ys) h = (le-leb (length (body y)) longest_body h.0, fit_behind [] ys h.1)
fit_behind (x ∷ xs) ys h = fit_behind xs ys h.1

stage_fits : (seat : Seat) (phase : Phase) (L : Entries) (said : Said) (x : InboxView) → InboxKept seat phase L said x → RpcsFit x.stage
stage_fits seat phase L said x k = fit_behind (handled L x.peer) x.stage (stream_fits longest_body (bytes_of said) (handled L x.peer ++ x.stage) k.read.rest k.read.end k.read.stream)

pub all_fit : (seat : Seat) (phase : Phase) (L : Entries) (said : PeerNo → Said) (xs : List InboxView)
    → AllByRecursion (λ (x : InboxView). InboxKept seat phase L (said x.peer) x) xs
    → AllByRecursion (λ (x : InboxView). RpcsFit x.stage) xs
all_fit seat phase L said [] k = tt
all_fit seat phase L said (x ∷ xs) k = (stage_fits seat phase L (said x.peer) x k.0, all_fit seat phase L said xs k.1)
