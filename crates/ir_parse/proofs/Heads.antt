-- Heads of functions that the grammar spells.
use Rattle.std.proofs.Common.{◌≡◌, ℕ, Bool, true, false, [], Option, Some, None, refl}
use Rattle.std.specs.List.{AllByRecursion as Each}
use Rattle.std.specs.Prelude.{IfSome}
use Rattle.ir_lex.specs.TokenKinds.{number}
use Rattle.ir_lex.specs.declared.token_kind.TokenKind as class
use Rattle.ir_lex.specs.declared.token_kind.TokenKind.TheVariants as kinds
use Rattle.ir_parse_parts.specs.Alphabet.{contains}
use Rattle.ir_parse_heads.specs.FunctionHeads.{further_param, head, leading, linkage_by, linkages_of, linking, listed_params, param, params, prefix, qualifying, some_params, with_linkage}
use Rattle.ir_parse_heads.specs.declared.function_heads.Role.{Role}
use Rattle.ir_parse_heads.specs.declared.function_heads.Role.TheVariants as roles
use Rattle.ir_parse_parts.specs.declared.raw.FunctionHeader.{FunctionHeader}
use Rattle.ir_parse_parts.specs.declared.raw.Param.{Param}
use Rattle.ir_tree.specs.Formed.{IsReg, IsResult}
use Rattle.ir_tree.specs.declared.function.Linkage.{Linkage}
use Rattle.ir_tree.specs.declared.function.Linkage.TheVariants.{External}
use Rattle.ir_parse.proofs.Means.{Means, among_means, chain_means, either_means, folded, follow, many_means, nothing, skip}
use Rattle.ir_parse.proofs.Operands.{reg_written, result_written}

-- ---- linkages

-- what is only declared is external
abbrev pub Linked : Role → Linkage → Type 0
Linked roles.Declaration l = l ≡ External
Linked roles.Definition l = Unit {0}

external_by : (h : class.TokenKind) → contains (linkages_of roles.Declaration) (number h) ≡ true → linkage_by h ≡ External
external_by kinds.Private c = absurd cc
external_by kinds.Internal c = absurd cc
external_by kinds.Linkonce c = absurd cc
external_by kinds.LinkonceOdr c = absurd cc
external_by kinds.Weak c = absurd cc
external_by kinds.WeakOdr c = absurd cc
external_by kinds.AvailableExternally c = absurd cc
external_by h c = refl

linked_by : (role : Role) (h : class.TokenKind) → contains (linkages_of role) (number h) ≡ true → Linked role (linkage_by h)
linked_by roles.Declaration h c = external_by h c
linked_by roles.Definition h c = tt

external_linked : (role : Role) → Linked role External
external_linked roles.Declaration = refl
external_linked roles.Definition = tt

module _ (role : Role) where
  linking_written : Means (linking role) (λ x. IfSome x.0 (Linked role))
  unfolding linking
  linking_written = follow {P = Linked role} (among_means _ _ _ (λ t s c. linked_by role t.kind c)) (λ l h. nothing h)

  qualifying_written : (linked : Bool) → Means (qualifying linked) (λ x. IfSome x.0 (Linked role))
  unfolding qualifying
  qualifying_written linked = skip _ (λ _. nothing tt)

  leading_written : (linked : Bool) → Means (leading role linked) (λ x. IfSome x.0 (Linked role))
  leading_written true = qualifying_written true
  leading_written false = either_means linking_written (qualifying_written false)

  stays_linked : (l : Linkage) (written : Option Linkage) → Linked role l → IfSome written (Linked role) → Linked role (with_linkage l written)
  stays_linked l None h g = h
  stays_linked l (Some written) h g = g

  prefix_written : Means (prefix role) (Linked role)
  unfolding prefix
  prefix_written =
      follow (chain_means {P = λ o. IfSome o (Linked role)} false leading_written) (λ all h.
      nothing (folded with_linkage (λ o. IfSome o (Linked role)) (Linked role) stays_linked External all (external_linked role) h))

-- ---- parameters

abbrev ParamWritten : Param → Type 0
ParamWritten p = IsReg p.reg

param_written : Means param ParamWritten
unfolding param
param_written = follow reg_written (λ r h. skip _ (λ _. skip _ (λ name. nothing h)))

further_written : Means further_param ParamWritten
unfolding further_param
further_written = skip _ (λ _. param_written)

some_written : (room : ℕ) → Means (some_params room) (Each ParamWritten)
unfolding some_params
some_written room = follow param_written (λ first h. follow (many_means room further_written) (λ more g. nothing (h, g)))

listed_written : (room : ℕ) → Means (listed_params room) (Each ParamWritten)
unfolding listed_params
listed_written room = either_means (follow (some_written room) (λ ps h. skip _ (λ _. nothing h))) (skip _ (λ _. nothing tt))

params_written : (room : ℕ) → Means (params room) (Each ParamWritten)
unfolding params
params_written room = skip _ (λ _. listed_written room)

-- ---- heads

-- attributes stand behind a head
pub record IsHead (role : Role) (h : FunctionHeader) : Type 0 where
  pub linkage : Linked role h.linkage
  pub result : IsResult h.result
  pub params : Each (λ p. IsReg p.reg) h.params
  pub noinline : h.noinline ≡ false
  pub optnone : h.optnone ≡ false
  pub groups : h.groups ≡ []

pub head_written : (role : Role) (room : ℕ) → Means (head role room) (IsHead role)
unfolding head
head_written role room =
    follow (prefix_written role) (λ l h.
    follow result_written (λ r g.
    skip _ (λ name.
    follow (params_written room) (λ ps k. nothing (record { linkage = h; result = g; params = k; noinline = refl; optnone = refl; groups = refl })))))
