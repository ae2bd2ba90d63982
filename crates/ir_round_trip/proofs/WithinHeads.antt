-- Heads of functions that the grammar spells, and names of variables: names can be written, and there are so many parameters.
use Rattle.std.proofs.Common.{◌≡◌, ℕ, suc, ◌≤◌, nat_eq, if◌then◌else◌, ◌||◌, ◌++◌, Bool, true, false, List, length, refl, arith}
use Rattle.ir_parse_globals.specs.Variables.{variable_name}
use Rattle.ir_parse.specs.Modules.{FURTHER_PARAMETERS}
use Rattle.ir_lex.specs.TokenKinds.{number}
use Rattle.ir_lex.specs.Tok.{Tok}
use Rattle.ir_lex.specs.declared.token_kind.TokenKind.TheVariants as kinds
use Rattle.ir_parse_heads.specs.FunctionHeads.{GLOBAL as function_names, NUMBERED, function_name, head, is_local, listed_params, params, some_params}
use Rattle.ir_parse_operands.specs.Values.{GLOBAL}
use Rattle.ir_parse_heads.specs.declared.function_heads.Role.{Role}
use Rattle.ir_parse_heads.specs.declared.function_heads.Role.TheVariants as roles
use Rattle.ir_parse_parts.specs.declared.raw.FunctionHeader.{FunctionHeader}
use Rattle.ir_parse_parts.specs.declared.raw.Param.{Param}
use Rattle.ir_tree.specs.declared.function.Linkage.{Linkage}
use Rattle.ir_parse_parts.specs.Alphabet.{contains}
use Rattle.ir_round_trip.specs.Spelled.{FewParams, NameSpelled}
use Rattle.ir_round_trip.proofs.PrintedBodies.{many_few}
use Rattle.ir_round_trip.proofs.Means.{Means, global_means, either_means, follow, nothing, skip}

params_few : (room : ℕ) → Means (params room) (λ ps. length ps ≤ suc room)
unfolding params listed_params some_params
params_few room =
    skip _ (λ _.
    either_means (follow {P = λ (ps : List Param). length ps ≤ suc room} (skip _ (λ first. follow (many_few room) (λ more h. nothing (let few : length more ≤ room = h in omega (arith, few))))) (λ ps h. skip _ (λ _. nothing h)))
    (skip _ (λ _. nothing (omega arith))))

-- a class of a global's name
among_global : (a b c : Bool) → a || (b || false) ≡ true → a || (c || (b || false)) ≡ true
among_global true b c e = refl
among_global false true true e = refl
among_global false true false e = refl
among_global false false c e = absurd cc

pub variable_name_spelled : Means variable_name NameSpelled
variable_name_spelled = global_means _ _ (λ t s c. s.named (among_global (nat_eq (number t.kind) (number kinds.Global)) (nat_eq (number t.kind) (number kinds.NumberedDefinition)) (nat_eq (number t.kind) (number kinds.NumberedGlobal)) c))

-- a lifetime marker, which is dropped, has no name of this kind
abbrev pub Marked : Role → Tok → Type 0
Marked roles.Declaration t = nat_eq (number t.kind) (number kinds.LifetimeMarker) ≡ false → NameSpelled t
Marked roles.Definition t = NameSpelled t

one_global : (a b c : Bool) → a || false ≡ true → a || (b || (c || false)) ≡ true
one_global true b c e = refl
one_global false b c e = absurd cc

numbered_global : (a b c : Bool) → b || (c || (a || false)) ≡ true → a || (b || (c || false)) ≡ true
numbered_global true b c e = refl
numbered_global false true c e = refl
numbered_global false false true e = refl
numbered_global false false false e = absurd cc

unmarked_global : (m a b c : Bool) → m || (a || false) ≡ true → m ≡ false → a || (b || (c || false)) ≡ true
unmarked_global true a b c e f = absurd cc
unmarked_global false true b c e f = refl
unmarked_global false false b c e f = absurd cc

function_name_spelled : (role : Role) (l : Linkage) → Means (function_name role l) (Marked role)
function_name_spelled roles.Declaration l =
    global_means _ _ (λ t s c f. s.named (unmarked_global (nat_eq (number t.kind) (number kinds.LifetimeMarker)) (nat_eq (number t.kind) (number kinds.Global)) (nat_eq (number t.kind) (number kinds.NumberedGlobal)) (nat_eq (number t.kind) (number kinds.NumberedDefinition)) c f))
function_name_spelled roles.Definition l = global_means _ _ (λ t s c. s.named (by t (is_local l) c))
  where
    by : (t : Tok) (b : Bool) → contains (if b then NUMBERED ++ function_names else function_names) (number t.kind) ≡ true → contains GLOBAL (number t.kind) ≡ true
    by t true c = numbered_global (nat_eq (number t.kind) (number kinds.Global)) (nat_eq (number t.kind) (number kinds.NumberedGlobal)) (nat_eq (number t.kind) (number kinds.NumberedDefinition)) c
    by t false c = one_global (nat_eq (number t.kind) (number kinds.Global)) (nat_eq (number t.kind) (number kinds.NumberedGlobal)) (nat_eq (number t.kind) (number kinds.NumberedDefinition)) c

abbrev pub HeadMarked : Role → FunctionHeader → Type 0
HeadMarked role h = Marked role h.name × FewParams h

pub head_spelled : (role : Role) → Means (head role FURTHER_PARAMETERS) (HeadMarked role)
unfolding head
head_spelled role = skip _ (λ l. skip _ (λ r. follow (function_name_spelled role l) (λ name n. follow (params_few FURTHER_PARAMETERS) (λ ps h. nothing (n, h)))))
