use Rattle.std.proofs.Common.{◌≡◌, ◌∙◌, [], Ok, ap, codes, sym}
use Rattle.std.specs.Prelude.{option_map}
use Rattle.clap.specs.Words.{first_of}
use Rattle.lto_words.specs.Given.{rows_in}
use Rattle.lto_words.specs.Values.{AreDecimals}
use Rattle.lto_words.proofs.Reading.{none_given, text_given}
use Rattle.lto_words.proofs.given.args_given.Goals as goal

pub returns-in-Some : goal.returns-in-Some
returns-in-Some c = text_given (λ numbers. numbers ≡ []) AreDecimals (first_of (codes "args") (rows_in c.args.matches.now)) _ c.decimals.result (ap (option_map (λ s. s.now)) (sym c.in-Some.is) ∙ c.given.ensures) c.decimals.ensures

pub returns-in-None : goal.returns-in-None
returns-in-None c = none_given (λ numbers. numbers ≡ []) AreDecimals (first_of (codes "args") (rows_in c.args.matches.now)) (Ok c.new.result) (ap (option_map (λ s. s.now)) (sym c.in-None.is) ∙ c.given.ensures) c.new.ensures
