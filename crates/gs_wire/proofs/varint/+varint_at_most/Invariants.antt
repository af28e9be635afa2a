use Rattle.gs_wire.proofs.varint.+varint_at_most.Given as goal

abbrev pub decreases-varint_at_most : goal.decreases-varint_at_most
decreases-varint_at_most l = l.most
