-- The numbers of a link's refusals, as docs/REFUSALS.md lists them.
use Rattle.std.specs.Prelude.{ℕ}
use Rattle.gs_link.specs.declared.fault.LinkFault.{LinkFault}
use Rattle.gs_link.specs.declared.fault.LinkFault.TheVariants as link
use Rattle.gs_link.specs.declared.fault.SendRefused.{SendRefused}
use Rattle.gs_link.specs.declared.fault.SendRefused.TheVariants as send
use Rattle.gs_link.specs.declared.fault.CloseRefused.{CloseRefused}
use Rattle.gs_link.specs.declared.fault.CloseRefused.TheVariants as close

-- too little memory for a link
abbrev pub link_number : LinkFault → ℕ
link_number link.NoMemory = 9

-- full, or closed
abbrev pub send_number : SendRefused → ℕ
send_number (send.Full item) = 10
send_number (send.Closed item) = 11

abbrev pub close_number : CloseRefused → ℕ
close_number close.Full = 10
close_number close.Closed = 11
