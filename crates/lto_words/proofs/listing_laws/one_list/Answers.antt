use Rattle.lto_words.proofs.OneList.{either_list_or_bad, list_has_no_bad_line, one_bad_line, one_list}
use Rattle.lto_words.proofs.listing_laws.one_list.Goals as goal

pub returns-clause-either : goal.returns-clause-either
returns-clause-either c = either_list_or_bad

pub returns-clause-apart : goal.returns-clause-apart
returns-clause-apart c = list_has_no_bad_line

pub returns-clause-links : goal.returns-clause-links
returns-clause-links c = one_list

pub returns-clause-line : goal.returns-clause-line
returns-clause-line c = one_bad_line
