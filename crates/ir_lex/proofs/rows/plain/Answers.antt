use Rattle.std.proofs.Common.{refl, sym, add-one}
use Rattle.ir_lex.proofs.Fits.{digit_fit, word_fit, other_fit}
use Rattle.ir_lex.proofs.rows.plain.Goals as goal

pub returns-then-is_ascii_digit : goal.returns-then-is_ascii_digit
returns-then-is_ascii_digit c = rw (c.requires.whole, digit_fit c.args.first c.args.rest.now (sym c.if-is_ascii_digit.ensures.value), c.run.ensures.exact, add-one) refl

pub returns-then-starts_word : goal.returns-then-starts_word
returns-then-starts_word c = rw (c.better.ensures, c.requires.whole, word_fit c.args.first c.args.rest.now (sym c.if-starts_word.ensures), c.run-then-starts_word.ensures.exact, c.behind_len.ensures.exact, c.requires.whole, add-one) refl

pub returns-else-starts_word : goal.returns-else-starts_word
returns-else-starts_word c = rw (c.better-else-starts_word.ensures, c.requires.whole, other_fit c.args.first c.args.rest.now c.requires.plain (sym c.if-is_ascii_digit.ensures.value) (sym c.if-starts_word.ensures), c.one_if-len.ensures, c.is_ascii_graphic.ensures.value) refl
