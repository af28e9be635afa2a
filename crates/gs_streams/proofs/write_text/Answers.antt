use Rattle.std.proofs.Common.{◌++◌, take, drop}
use Rattle.std.proofs.KnownBytes.{Appends-kept, Appends-trans}
use Rattle.gs_streams.proofs.Fronts.{front_written, split_further, split_at_slice}
use Rattle.gs_streams.proofs.write_text.Goals as goal

pub loop-rest-preserved : goal.loop-rest-preserved
loop-rest-preserved g c =
    let (done, split, appended) = c.loop-rest.invariant in
    let rest = c.loop-rest.rest.now in
    let n = c.in-Ok.count in
    (done ++ take n rest, split_at_slice _ done rest n split, Appends-trans _ _ _ _ _ appended c.in-Ok.ensures.bytes)

pub returns-in-Ok-eq0-clause-err : goal.returns-in-Ok-eq0-clause-err
returns-in-Ok-eq0-clause-err g c =
    let (done, split, appended) = c.loop-rest.invariant in
    let rest = c.loop-rest.rest.now in
    let n = c.in-Ok-eq0.field-0 in
    front_written _ _ _ (done ++ take n rest) (drop n rest) (split_further _ done rest n split) (Appends-trans _ _ _ _ _ appended c.in-Ok-eq0.ensures.bytes)

pub returns-in-Err-clause-err : goal.returns-in-Err-clause-err
returns-in-Err-clause-err g c =
    let (done, split, appended) = c.loop-rest.invariant in
    front_written _ _ _ done c.loop-rest.rest.now split (Appends-kept _ _ _ _ appended c.in-Err.ensures.bytes)
