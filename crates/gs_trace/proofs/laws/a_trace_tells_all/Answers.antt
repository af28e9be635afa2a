use Rattle.gs_trace.proofs.OneText.{one_last_round, one_length_of_rounds, one_list_of_dials, one_list_of_names, one_list_of_traces, one_list_told}
use Rattle.gs_trace.proofs.laws.a_trace_tells_all.Goals as goal

pub returns : goal.returns
returns c = record {
  names = one_list_of_names;
  rounds = λ p q r s hr hs e. (one_length_of_rounds p q r s hr hs e, one_last_round p q r s hr hs e);
  dials = one_list_of_dials;
  told = one_list_told;
  traces = one_list_of_traces;
}
