use Rattle.gs_wire.proofs.EveryStream.{every_stream}
use Rattle.gs_wire.proofs.laws.every_list_of_bytes_is_a_stream.Goals as goal

pub returns : goal.returns
returns c = every_stream
