-- What an inbox stages of a piece.
use Rattle.std.proofs.Common.{◌≡◌, ℕ, List, [], None, inl, inr, refl, sym, ap, ◌∙◌, append-nil}
use Rattle.gs_base.specs.declared.rpc.Rpc.{Rpc}
use Rattle.gs_wire.specs.declared.frames.End.{End}
use Rattle.gs_wire.specs.Stream.{Holding, Feeds}
use Rattle.gs_peer.specs.Inboxes.{InboxView, FeedsPiece}

pub fed : (old : InboxView) (reader : Holding) (stage : List Rpc) (piece : List ℕ) (end : End)
    → Feeds old.reader piece reader old.stage stage end
    → FeedsPiece old piece (record old { reader = reader; stage = stage })
fed old reader stage piece end h = (
  reader,
  h.found,
  inl (end, record { held = h.held; was_held = h.was_held; found = h.found; rest = h.rest; stream = h.stream; added = refl; keeps = h.keeps }),
  ap (λ (rpcs : List Rpc). record old { reader = reader; stage = rpcs }) h.added,
)

-- after a fault nothing is staged
pub unfed : (old : InboxView) (reader : Holding) (stage : List Rpc) (piece : List ℕ)
    → old.reader.held ≡ None
    → reader ≡ old.reader
    → stage ≡ old.stage
    → FeedsPiece old piece (record old { reader = reader; stage = stage })
unfed old reader stage piece failed same none = (
  reader,
  [],
  inr (failed, same, refl),
  ap (λ (rpcs : List Rpc). record old { reader = reader; stage = rpcs }) (none ∙ sym (append-nil old.stage)),
)
