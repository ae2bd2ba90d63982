use Rattle.std.proofs.Common.{refl, add-one}
use Rattle.ir_lex.specs.declared.token.TokenForm.TheVariants as forms
use Rattle.ir_lex.specs.declared.bytes.Set.TheVariants.{Digits}
use Rattle.ir_lex.specs.Bytes.{run}
use Rattle.ir_lex.specs.Rows.{name_len}
use Rattle.ir_lex.proofs.Fits.{arm, arm_of, local_fit, global_fit, comdat_fit, group_fit, signed_fit, meta_fit, string_fit, dots_fit}
use Rattle.ir_lex.proofs.rows.unlabelled.Goals as goal

pub returns-in-37 : goal.returns-in-37
returns-in-37 c = arm forms.Local 37 name_len _ _ _ _ _ local_fit c.requires c.in-37.is c.name_len.ensures.exact c.behind.ensures

pub returns-in-64 : goal.returns-in-64
returns-in-64 c = arm forms.Global 64 name_len _ _ _ _ _ global_fit c.requires c.in-64.is c.name_len-in-64.ensures.exact c.behind-in-64.ensures

pub returns-in-36 : goal.returns-in-36
returns-in-36 c = arm forms.Comdat 36 name_len _ _ _ _ _ comdat_fit c.requires c.in-36.is c.name_len-in-36.ensures.exact c.behind-in-36.ensures

pub returns-in-35 : goal.returns-in-35
returns-in-35 c = arm forms.Group 35 (run Digits) _ _ _ _ _ group_fit c.requires c.in-35.is c.run.ensures.exact c.behind-in-35.ensures

pub returns-in-45 : goal.returns-in-45
returns-in-45 c = arm forms.Number 45 (run Digits) _ _ _ _ _ signed_fit c.requires c.in-45.is c.run-in-45.ensures.exact c.behind-in-45.ensures

pub returns-in-33 : goal.returns-in-33
returns-in-33 c = arm_of 33 _ _ _ _ c.requires c.in-33.is (rw (meta_fit c.args.rest.now, c.run-in-33.ensures.exact, add-one) refl)

pub returns-in-34 : goal.returns-in-34
returns-in-34 c = arm_of 34 _ _ _ _ c.requires c.in-34.is (rw (string_fit c.args.rest.now, c.better.ensures, c.string_len.ensures.exact, c.requires, c.in-34.is) refl)

pub returns-in-46 : goal.returns-in-46
returns-in-46 c = arm_of 46 _ _ _ _ c.requires c.in-46.is (rw (dots_fit c.args.rest.now, c.better-in-46.ensures, c.dots_len.ensures.exact, c.requires, c.in-46.is) refl)
