use Rattle.std.proofs.Common.{arith, ◌≡◌, ◌++◌, [], false, refl, sym, append-nil}
use Rattle.gs_wire.proofs.FrameLists.{only_adds, missing_stream, missing_sound}
use Rattle.gs_wire.proofs.frame_reader.FrameReader.feed.Goals as goal

pub returns-then-piece-self : goal.returns-then-piece-self
returns-then-piece-self c =
    let f = c.self.inside in
    let held = f.held.items in
    let piece = c.args.piece.now in
    let sound : f.failed ≡ false = missing_sound f.limit held f.next f.missing f.failed c.self.invariant (omega arith) in
    rw (← c.self.view_is) (only_adds _ _ piece c.args.rpcs.now.items c.args.rpcs.now.items _ refl (record {
      held = held;
      was_held = rw sound refl;
      found = [];
      rest = held ++ piece;
      stream = missing_stream f.limit held piece f.next f.missing f.failed c.self.invariant (omega arith);
      added = sym (append-nil c.args.rpcs.now.items);
      keeps = rw (sound, c.in_ok-extend_from_slice.ensures.ok) refl;
    }))
