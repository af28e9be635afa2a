-- What is held about payloads.
use Rattle.std.specs.Prelude.{◌≡◌, Option, IfSome}
use Rattle.gs_base.specs.Names.{message_id}
use Rattle.gs_cache.specs.declared.payloads.Known.{Known}

-- whatever lies in a slot has the identifier of its payload
abbrev pub IsRight : Option Known → Type 0
IsRight slot = IfSome slot (λ known. known.id ≡ message_id known.payload)
