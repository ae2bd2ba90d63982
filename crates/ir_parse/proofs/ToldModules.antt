-- The kind of a fault fits the token at which it stands, in a whole module.
use Rattle.std.proofs.Common.{◌≡◌, true, List, [], ◌∷◌, ◌++◌, length, Result, Ok, Err, refl, subst, inl}
use Rattle.ir_lex.specs.TokenKinds.{number}
use Rattle.ir_lex.specs.Tok.{Tok}
use Rattle.ir_parse_parts.specs.Alphabet.{among}
use Rattle.ir_parse_parts.specs.Faults.{FitsBound, FitsKind, StopsAt}
use Rattle.ir_parse_parts.specs.Lawful.{Lawful}
use Rattle.ir_parse_parts.specs.Readers.{Reader, ended, whole_of}
use Rattle.ir_parse_parts.specs.declared.fault.Fault.{Fault}
use Rattle.ir_parse_parts.specs.declared.fault.TokenFault.TheVariants.{Number, Limit}
use Rattle.ir_parse_parts.proofs.Composed.{wrong, wrong_is}
use Rattle.ir_parse_parts.proofs.Bounds.{whole_bound}
use Rattle.ir_parse_parts.proofs.Whole as whole
use Rattle.ir_parse_parts.specs.Classes.{tokens}
use Rattle.ir_parse_parts.specs.declared.raw.Item.{Item}
use Rattle.ir_parse_heads.proofs.FunctionHeadRules.{name_not_limit, name_not_number}
use Rattle.ir_parse.specs.ItemFormsAt.{ITEM, items_at}
use Rattle.ir_parse.specs.Modules.{FURTHER_PARAMETERS, GLOBAL_NAMES, any_module, item_refusal, module_of, whole_module}
use Rattle.ir_parse.proofs.ItemRules.{ANY, items_rule}
use Rattle.ir_parse.proofs.Told.{AllowedAt, Fits, name_refusal_refuses}
use Rattle.ir_parse.proofs.ToldItems.{items_told}

abbrev reader : Reader Tok (List Item)
reader = items_at FURTHER_PARAMETERS GLOBAL_NAMES

module_law : Lawful tokens whole_module any_module reader (among tokens ITEM) (among tokens ANY) true
unfolding whole_module any_module
module_law = (items_rule FURTHER_PARAMETERS GLOBAL_NAMES).law

not_number : (t : Tok) → item_refusal t ≡ Number → ⊥
not_number t e = name_not_number (number t.kind) e

not_limit : (t : Tok) → item_refusal t ≡ Limit → ⊥
not_limit t e = name_not_limit (number t.kind) e

pub module_sound : (ts : List Tok) (is : List Item) → module_of ts ≡ Ok is → whole_module ts is
unfolding module_of
module_sound ts is e = whole.whole_sound tokens whole_module any_module reader (among tokens ITEM) (among tokens ANY) true item_refusal not_number module_law ts is e

pub module_stops : (ts : List Tok) (f : Fault) → module_of ts ≡ Err f → StopsAt tokens whole_module ts f.left
unfolding module_of
module_stops ts f e = whole.whole_stops tokens whole_module any_module reader (among tokens ITEM) (among tokens ANY) true item_refusal not_number module_law ts f e

pub module_kind : (ts : List Tok) (f : Fault) → module_of ts ≡ Err f → FitsKind tokens whole_module ts f.left f.kind
unfolding module_of
module_kind ts f e = whole.whole_kind tokens whole_module any_module reader (among tokens ITEM) (among tokens ANY) true item_refusal not_number module_law ts f e

-- the kind of a fault, and where it stands
abbrev pub Told : List Tok → Fault → Type 0
Told ts f = (front : List Tok) × (rest : List Tok) × (ts ≡ front ++ rest) × (length rest ≡ f.left) × AllowedAt front rest f.kind

pub module_told : (ts : List Tok) (f : Fault) → module_of ts ≡ Err f → Told ts f
unfolding module_of
module_told ts f e = by_result (reader ts) ((items_told FURTHER_PARAMETERS GLOBAL_NAMES).each [] ts) e
  where
    by_end : (front rest : List Tok) (is : List Item) → ts ≡ front ++ rest → ended item_refusal is rest ≡ wrong {X = List Item} f → Told ts f
    by_end front [] is w d = absurd (cc d)
    by_end front (t ∷ rest) is w d = subst (Told ts) (wrong_is (record { left = length (t ∷ rest); kind = item_refusal t }) f d) (front, t ∷ rest, w, refl, inl (name_refusal_refuses (number t.kind)))

    by_result : (r : Result (List Item × List Tok) Fault) → Fits [] ts r → whole_of item_refusal r ≡ wrong {X = List Item} f → Told ts f
    by_result (Ok x) (front, w) d = by_end front x.1 x.0 w d
    by_result (Err g) told d = subst (Told ts) (wrong_is g f d) told

pub module_limit : (ts : List Tok) (f : Fault) → module_of ts ≡ Err f → FitsBound tokens any_module ts f.left f.kind
unfolding module_of
module_limit ts f h = whole_bound tokens whole_module any_module reader (among tokens ITEM) (among tokens ANY) true item_refusal not_number not_limit module_law ts f h
