use Rattle.std.proofs.Common.{◌≡◌, ◌∙◌, Bool, ap, false, length, not, rules, sym, tests}
use Rattle.std.proofs.lemmas.Iterator.{YieldsList-from_slice}
use Rattle.std.proofs.lemmas.Iterator.Search.{all_from_yields_List}
use Rattle.std.specs.Char.{is_ascii_digit}
use Rattle.std.specs.List.{list_all}
use Rattle.std.specs.Prelude.{◌==◌, ◌&&◌}
use Rattle.lto_words.proofs.number.is_numeral.Goals as goal

pub returns : goal.returns
returns c =
    let some : (length c.args.text.now == 0) ≡ false = sym c.is_empty.ensures ∙ c.if-is_empty.false in
    all_from_yields_List is_ascii_digit _ _ c.all.result c.all.ensures.ran (YieldsList-from_slice c.as_bytes.result.now cc) (λ x b q k. search (rules, tests))
    ∙ ap (list_all is_ascii_digit) c.as_bytes.ensures.value
    ∙ sym (ap (λ (empty : Bool). not empty && list_all is_ascii_digit c.args.text.now) some)
