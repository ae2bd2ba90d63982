use Rattle.lto_words.proofs.number.number.Goals as goal

pub returns-then-text-gt-MOST_DIGITS-clause-some : goal.returns-then-text-gt-MOST_DIGITS-clause-some
returns-then-text-gt-MOST_DIGITS-clause-some c = tt

pub returns-then-not-is_numeral-clause-some : goal.returns-then-not-is_numeral-clause-some
returns-then-not-is_numeral-clause-some c = tt

pub returns-then-value-from-clause-some : goal.returns-then-value-from-clause-some
returns-then-value-from-clause-some c = tt

pub returns-then-from-value-clause-some : goal.returns-then-from-value-clause-some
returns-then-from-value-clause-some c = tt
