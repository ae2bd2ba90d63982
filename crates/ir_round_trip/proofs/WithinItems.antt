-- Items that the grammar spells are within its limits, and so is how many of them have a name.
use Rattle.std.proofs.Common.{◌≡◌, ℕ, zero, suc, ◌+◌, ◌≤◌, nat_eq, cond, Bool, true, false, List, [], ◌∷◌, ◌++◌, Option, Some, None, Ok, Err, refl, subst, arith}
use Rattle.std.specs.List.{AllByRecursion as Each, fold}
use Rattle.std.specs.Prelude.{IfSome}
use Rattle.ir_parse_bodies.specs.Blocks.{definition}
use Rattle.ir_parse_globals.specs.TypeDefinitions.{defined, type_line}
use Rattle.ir_parse_globals.specs.Variables.{behind_kind, is_declared, variable_line, variable_name}
use Rattle.ir_parse.specs.ItemForms as whole
use Rattle.ir_parse.specs.Modules.{FURTHER_PARAMETERS, GLOBAL_NAMES, whole_module}
use Rattle.ir_lex.specs.TokenKinds.{number}
use Rattle.ir_lex.specs.Quotes.{content}
use Rattle.ir_lex.specs.Tok.{Tok}
use Rattle.ir_lex.specs.declared.token_kind.TokenKind.TheVariants as kinds
use Rattle.ir_parse_names.specs.Types.{shape_if}
use Rattle.ir_parse_heads.specs.Attributes.{attribute_group}
use Rattle.ir_parse_parts.specs.Classes.{refusal}
use Rattle.ir_parse_operands.specs.ShapeForms.{memory_shape}
use Rattle.ir_parse_heads.specs.Targets.{fits_layout, is_layout, layout_line, target_line, triple_line}
use Rattle.ir_parse_heads.specs.declared.function_heads.Role.TheVariants as roles
use Rattle.ir_parse_parts.specs.declared.places.Before.{Before}
use Rattle.ir_parse_parts.specs.declared.places.Before.TheVariants as befores
use Rattle.ir_parse_parts.specs.declared.places.Position.{Position}
use Rattle.ir_parse_parts.specs.declared.raw.FunctionHeader.{FunctionHeader}
use Rattle.ir_parse_parts.specs.declared.raw.Item.{Item}
use Rattle.ir_parse_parts.specs.declared.raw.Item.TheVariants as item
use Rattle.ir_parse_parts.specs.Chained.{Chain}
use Rattle.ir_parse_parts.specs.Forms as form
use Rattle.ir_parse_parts.specs.Forms.{Form}
use Rattle.ir_parse_parts.specs.declared.fault.TokenFault.TheVariants.{Profile}
use Rattle.ir_round_trip.proofs.CutInstructions.{each_left, each_right}
use Rattle.ir_round_trip.specs.PrintedLaws.{ItemsAreWithin}
use Rattle.ir_round_trip.specs.Spelled.{ItemSpelled, ItemsSpelled, LayoutSpelled, TypeCounted, count_in, count_of}
use Rattle.ir_round_trip.specs.Tokens.{IsCut, OfBytes}
use Rattle.ir_round_trip.proofs.PrintedBodies.{body_spelled}
use Rattle.ir_round_trip.proofs.WithinHeads.{HeadMarked, head_spelled, variable_name_spelled}
use Rattle.ir_round_trip.proofs.Means.{Means, among_means, either_means, follow, kept_means, nothing, skip, token_means}
use Rattle.ir_round_trip.proofs.WithinShapes.{shape_counted}
use Rattle.ir_round_trip.proofs.WithinInitialisers.{value_spelled}

definition_spelled : Means (definition FURTHER_PARAMETERS) ItemSpelled
unfolding definition
definition_spelled = skip _ (λ _. follow (head_spelled roles.Definition) (λ h few. skip _ (λ k. skip _ (λ _. follow body_spelled (λ bs g. skip _ (λ _. nothing (few, g)))))))

variable_spelled : Means (variable_line variable_name memory_shape) ItemSpelled
unfolding variable_line behind_kind
variable_spelled =
    follow variable_name_spelled (λ name n.
    skip _ (λ _. skip _ (λ l. skip _ (λ constant. follow shape_counted (λ typed h. follow (value_spelled (is_declared l) typed.shape) (λ init g. skip _ (λ align. nothing (n, h, g))))))))

layout_spelled : Means (form.token is_layout) LayoutSpelled
unfolding is_layout
layout_spelled = token_means (λ t a s h. by t a s.bytes (nat_eq (number t.kind) (number kinds.Str)) h)
  where
    inner : (t a : Tok) → OfBytes t → (b : Bool) → fits_layout (content t.form t.text) ≡ b → cond b (Ok t) (Err Profile) ≡ Ok a → LayoutSpelled a
    inner t a s true f e = let same : t ≡ a = cc (e) in subst LayoutSpelled same (s, f)
    inner t a s false f e = absurd (let no : Err Profile ≡ Ok a = e in cc)

    by : (t a : Tok) → OfBytes t → (b : Bool) → cond b (cond (fits_layout (content t.form t.text)) (Ok t) (Err Profile)) (Err (refusal (number t.kind))) ≡ Ok a → LayoutSpelled a
    by t a s true e = inner t a s (fits_layout (content t.form t.text)) refl e
    by t a s false e = absurd cc

-- ---- all items, and how many of them define or declare a name

abbrev count_if : Option Item → ℕ
count_if None = 0
count_if (Some i) = count_of i

abbrev IfItem : Option Item → Type 0
IfItem o = IfSome o ItemSpelled

at_most_one : (o : Option Item) → count_if o ≤ 1
at_most_one None = omega arith
at_most_one (Some i) = one i
  where
    one : (i : Item) → count_of i ≤ 1
    one (item.Variable v) = omega arith
    one (item.Declaration h) = omega arith
    one (item.Definition h bs) = omega arith
    one i = omega arith

-- one that has no name
abbrev Nameless : whole.ParsedItem → Type 0
Nameless x = IfItem x.0 × (count_if x.0 ≡ 0)

left_out_nameless : (g : Form Tok (Unit {0})) → Means (whole.left_out g) Nameless
unfolding whole.left_out
left_out_nameless g = skip _ (λ _. nothing (tt, refl))

target_nameless : Means (whole.kept target_line) Nameless
unfolding whole.kept target_line layout_line triple_line
target_nameless =
    follow {P = λ i. ItemSpelled i × (count_of i ≡ 0)}
    (skip _ (λ _. either_means (skip _ (λ _. skip _ (λ _. follow layout_spelled (λ layout h. nothing (h, refl))))) (skip _ (λ _. skip _ (λ _. follow {P = OfBytes} (among_means _ _ _ (λ t s c. s.bytes)) (λ triple h. nothing (h, refl)))))))
    (λ i h. nothing h)

type_nameless : Means (whole.kept (type_line memory_shape)) Nameless
unfolding whole.kept type_line defined
type_nameless =
    follow {P = λ i. ItemSpelled i × (count_of i ≡ 0)}
    (skip _ (λ name. skip _ (λ _. skip _ (λ _. follow {P = λ typed. TypeCounted (shape_if typed)} (either_means (skip _ (λ _. nothing tt)) (follow shape_counted (λ typed h. nothing h))) (λ typed h. nothing (h, refl))))))
    (λ i h. nothing h)

group_nameless : Means (whole.kept attribute_group) Nameless
unfolding whole.kept attribute_group
group_nameless =
    follow {P = λ i. ItemSpelled i × (count_of i ≡ 0)} (skip _ (λ _. skip _ (λ name. skip _ (λ _. skip _ (λ _. skip _ (λ k. skip _ (λ _. nothing (tt, refl)))))))) (λ i h. nothing h)

unnamed_nameless : Means (whole.unnamed memory_shape) Nameless
unfolding whole.unnamed
unnamed_nameless = either_means (left_out_nameless _) (either_means target_nameless (either_means (left_out_nameless _) (either_means type_nameless group_nameless)))

placed_nameless : (g : Form Tok Before) → Means (whole.placed g) Nameless
unfolding whole.placed
placed_nameless g = skip _ (λ before. nothing (tt, refl))

metadata_nameless : (before : Before) → Means (whole.metadata_there before) Nameless
metadata_nameless befores.Item = left_out_nameless _
metadata_nameless befores.Declaration = placed_nameless _
metadata_nameless befores.Name = placed_nameless _

attribute_nameless : Means whole.attribute_behind Nameless
unfolding whole.attribute_behind
attribute_nameless = skip _ (λ _. nothing (tt, refl))

plainly_nameless : (before : Before) → Means (whole.plainly memory_shape before) Nameless
plainly_nameless befores.Item = unnamed_nameless
plainly_nameless befores.Declaration = either_means attribute_nameless unnamed_nameless
plainly_nameless befores.Name = unnamed_nameless

-- and one that may have one
declared_spelled : (h : FunctionHeader) → HeadMarked roles.Declaration h → IfItem (whole.declared h)
declared_spelled h few = by (nat_eq (number h.name.kind) (number kinds.LifetimeMarker)) refl
  where
    by : (b : Bool) → nat_eq (number h.name.kind) (number kinds.LifetimeMarker) ≡ b → IfItem (cond b None (Some (item.Declaration h)))
    by true e = tt
    by false e = (few.0 e, few.1)

naming_spelled : Means (whole.naming FURTHER_PARAMETERS) (λ x. IfItem x.0)
unfolding whole.kept whole.declaration
naming_spelled =
    either_means (follow variable_spelled (λ i h. nothing h))
    (either_means (skip _ (λ _. skip _ (λ _. follow (head_spelled roles.Declaration) (λ h few. nothing (declared_spelled h few))))) (follow definition_spelled (λ i h. nothing h)))

-- a piece, with how many names there may be before it and behind it
abbrev PieceSpelled : ℕ → Option Item × Position → Type 0
PieceSpelled names x = IfItem x.0 × (count_if x.0 + x.1.names ≤ names)

named_spelled : (names : ℕ) → Means (whole.named_within FURTHER_PARAMETERS names) (PieceSpelled names)
unfolding whole.named
named_spelled zero = record { of = λ ts x s h. absurd h }
named_spelled (suc n) = follow naming_spelled (λ x h. nothing (let one : count_if x.0 ≤ 1 = at_most_one x.0 in (h, omega (arith, one))))

other_spelled : (before : Before) (names : ℕ) → Means (whole.other memory_shape before names) (PieceSpelled names)
unfolding whole.other whole.beside
other_spelled before names = follow {P = Nameless} (either_means (metadata_nameless before) (plainly_nameless before)) (λ x h. nothing (let none : count_if x.0 ≡ 0 = h.1 in (h.0, omega (arith, none))))

piece_spelled : (at : Position) → Means (whole.piece FURTHER_PARAMETERS at.before at.names) (PieceSpelled at.names)
unfolding whole.piece
piece_spelled at = either_means (named_spelled at.names) (other_spelled at.before at.names)

abbrev count_all : List (Option Item) → ℕ
count_all [] = 0
count_all (o ∷ os) = count_if o + count_all os

record Pieces (names : ℕ) (os : List (Option Item)) : Type 0 where
  all : Each IfItem os
  few : count_all os ≤ names

pieces_spelled : (at : Position) (ts : List Tok) (os : List (Option Item)) → Each IsCut ts → Chain whole.anywhere (λ at. whole.piece FURTHER_PARAMETERS at.before at.names) at ts os → Pieces at.names os
pieces_spelled at ts [] s h = record { all = tt; few = omega arith }
pieces_spelled at ts (o ∷ os) s h =
    let all : Each IsCut (h.0 ++ h.1) = subst (Each IsCut) h.3 s in
    let one = (piece_spelled at).of h.0 (o, h.2) (each_left IsCut h.0 h.1 all) h.4 in
    let rest = pieces_spelled h.2 h.1 os (each_right IsCut h.0 h.1 all) h.5 in
    let here : count_if o + h.2.names ≤ at.names = one.1 in
    let more : count_all os ≤ h.2.names = rest.few in
    record { all = (one.0, rest.all); few = omega (arith, here, more) }

count_push : (front : List Item) (i : Item) → count_in (front ++ i ∷ []) ≡ count_in front + count_of i
count_push [] i = omega arith
count_push (j ∷ front) i = let rest : count_in (front ++ i ∷ []) ≡ count_in front + count_of i = count_push front i in omega (arith, rest)

count_kept : (front : List Item) (os : List (Option Item)) → count_in (fold whole.keep front os) ≡ count_in front + count_all os
count_kept front [] = omega arith
count_kept front (None ∷ os) = let rest : count_in (fold whole.keep front os) ≡ count_in front + count_all os = count_kept front os in omega (arith, rest)
count_kept front (Some i ∷ os) =
    let rest : count_in (fold whole.keep (front ++ i ∷ []) os) ≡ count_in (front ++ i ∷ []) + count_all os = count_kept (front ++ i ∷ []) os in omega (arith, rest, count_push front i)

module_means : Means whole_module ItemsSpelled
unfolding whole_module whole.items
module_means =
    follow {P = Pieces GLOBAL_NAMES} (record { of = λ ts os s h. pieces_spelled (record { before = befores.Item; names = GLOBAL_NAMES }) ts os s h }) (λ os h.
    let same : count_in (fold whole.keep [] os) ≡ 0 + count_all os = count_kept [] os in
    let low : count_all os ≤ GLOBAL_NAMES = h.few in
    nothing (record { all = kept_means ItemSpelled whole.keep (λ _. refl) (λ _ _. refl) [] os tt h.all; few = omega (arith, same, low) }))

pub module_spelled : ItemsAreWithin
module_spelled ts is s h = module_means.of ts is s h
