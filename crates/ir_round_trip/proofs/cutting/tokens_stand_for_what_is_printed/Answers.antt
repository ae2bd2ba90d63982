use Rattle.ir_round_trip.proofs.Quoted.{name_content, names_agree, string_content, byte_string_content}
use Rattle.ir_round_trip.proofs.cutting.tokens_stand_for_what_is_printed.Goals as goal

pub returns-clause-name : goal.returns-clause-name
returns-clause-name c = name_content

pub returns-clause-agree : goal.returns-clause-agree
returns-clause-agree c = names_agree

pub returns-clause-string : goal.returns-clause-string
returns-clause-string c = string_content

pub returns-clause-bytes : goal.returns-clause-bytes
returns-clause-bytes c = byte_string_content
