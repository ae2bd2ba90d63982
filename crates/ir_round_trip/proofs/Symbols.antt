-- Printed names of globals stand for their symbols.
use Rattle.std.proofs.Common.{◌≡◌, ℕ, Bool, false, cond, ◌&&◌, None, List, ◌∷◌, sym, ap, ◌∙◌, drop}
use Rattle.std.specs.Char.{is_ascii_digit}
use Rattle.std.specs.List.{list_all}
use Rattle.ir_lex.specs.Bytes.{has}
use Rattle.ir_lex.specs.Quotes.{stripped, content}
use Rattle.ir_lex.specs.Tok.{Tok}
use Rattle.ir_lex.specs.declared.bytes.Set.TheVariants.{Digits}
use Rattle.ir_lex.specs.declared.token.TokenForm.TheVariants as forms
use Rattle.ir_parse_names.specs.Keys.{is_numeral}
use Rattle.ir_parse_names.specs.Symbols.{trimmed, symbol_name, symbol_of}
use Rattle.ir_tree.specs.Names.{quoted}
use Rattle.ir_tree.specs.declared.operand.Symbol.{Symbol}
use Rattle.ir_round_trip.specs.PartsPrinted.{IsGlobal}
use Rattle.ir_round_trip.specs.Printable.{IsName}
use Rattle.ir_round_trip.proofs.Quoted.{name_text, name_content}

not_digits : (c : ℕ) (cs : List ℕ) → has Digits c ≡ false → is_numeral (c ∷ cs) ≡ false
unfolding has
not_digits c cs e = ap (λ (b : Bool). b && list_all is_ascii_digit cs) e

no_numeral : (name : List ℕ) → IsName name → is_numeral (quoted name) ≡ false
no_numeral name n = let t = name_text name n in ap is_numeral t.whole ∙ not_digits t.first t.others t.no_digit

global_bare : (name : List ℕ) (t : Tok) → IsGlobal name t → stripped t.form t.text ≡ quoted name
global_bare name t i = ap (λ k. stripped k t.text) i.form ∙ ap (drop 1) i.text

means_name : (name : List ℕ) (t : Tok) → IsName name → IsGlobal name t → content t.form t.text ≡ name
means_name name t n i = ap (λ k. content k t.text) i.form ∙ ap (content forms.Global) i.text ∙ name_content name n

name_again : (name : List ℕ) (t : Tok) → IsName name → IsGlobal name t → symbol_name t ≡ name
unfolding symbol_name
name_again name t n i =
    ap (λ (bare : List ℕ). cond (is_numeral bare) (trimmed bare) (content t.form t.text)) (global_bare name t i)
    ∙ ap (λ (b : Bool). cond b (trimmed (quoted name)) (content t.form t.text)) (no_numeral name n)
    ∙ means_name name t n i

pub symbol_again : (s : Symbol) (t : Tok) → s.home ≡ None → IsName s.name → IsGlobal s.name t → symbol_of t ≡ s
symbol_again s t home n i =
    ap (λ (name : List ℕ). record { home = None; name = name }) (name_again s.name t n i)
    ∙ ap (λ h. record { home = h; name = s.name }) (sym home)
