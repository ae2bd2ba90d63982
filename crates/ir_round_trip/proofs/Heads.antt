-- What stands before the body of a function is read (LangRef, "Functions", "Linkage Types").
use Rattle.std.proofs.Common.{◌≡◌, ℕ, zero, suc, ◌≤◌, Bool, true, false, cond, Option, Some, None, List, [], ◌∷◌, ◌++◌, length, codes, refl, sym, ap, subst, ◌∙◌, append_assoc, arith}
use Rattle.std.specs.List.{fold, AllByRecursion as Each}
use Rattle.ir_lex.specs.TokenKinds.{number, kind_of, mark_kind, word_kind, listed_kind, words_4, words_7, words_8, words_12, words_20}
use Rattle.ir_lex.specs.Pieces.{Piece}
use Rattle.ir_lex.specs.declared.token_kind.TokenKind as class
use Rattle.ir_lex.specs.declared.token_kind.TokenKind.TheVariants as kinds
use Rattle.ir_lex.specs.declared.token.TokenForm.TheVariants as forms
use Rattle.ir_print.specs.Functions as printed
use Rattle.ir_print.specs.Functions.{signature, attributes, body, definition}
use Rattle.ir_print.specs.Tokens.{tight, space, word, mark, comma, global}
use Rattle.ir_print.specs.Types.{register, result}
use Rattle.ir_parse_parts.specs.Operands.{global_by, global_named}
use Rattle.ir_parse_heads.specs.Attributes.{parameter_attributes}
use Rattle.ir_parse_parts.specs.Classes.{refusal, itself}
use Rattle.ir_parse_heads.specs.FunctionHeads as read
use Rattle.ir_parse_heads.specs.FunctionHeads.{linkages_of, linkage_by, linkage_word, linking, leading, at_will, with_linkage, prefix, names_of, name_refusal, function_name, param, further_param, some_params, listed_params, params, head, is_local}
use Rattle.ir_parse_parts.specs.Operands.{type_refusal}
use Rattle.ir_parse_heads.specs.declared.function_heads.Role.{Role}
use Rattle.ir_parse_heads.specs.declared.function_heads.Role.TheVariants as roles
use Rattle.ir_parse_parts.specs.declared.raw.Param as raw_param
use Rattle.ir_tree.specs.Names.{quoted}
use Rattle.ir_tree.specs.declared.function.Function.{Function}
use Rattle.ir_tree.specs.declared.function.Linkage.{Linkage}
use Rattle.ir_tree.specs.declared.function.Linkage.TheVariants as linkages
use Rattle.ir_tree.specs.declared.function.Param.{Param}
use Rattle.ir_parse_parts.specs.Alphabet.{contains}
use Rattle.ir_parse_parts.specs.Chained.{Chain}
use Rattle.ir_parse_parts.specs.Forms.{Many}
use Rattle.ir_round_trip.specs.Classes.{IsOrdinary}
use Rattle.ir_round_trip.specs.Printable.{IsName}
use Rattle.ir_round_trip.proofs.Classes.{global_class}
use Rattle.ir_round_trip.specs.Pieces.{head_pieces, declared_pieces}
use Rattle.ir_round_trip.specs.PartsPrinted.{Paired, IsGlobal, IsNamed, IsParam, IsType, IsHead, IsDeclared}
use Rattle.ir_round_trip.specs.PartsReadable.{ParamReadable, HeadReadable}
use Rattle.ir_round_trip.specs.Reads.{Parses, Any}
use Rattle.ir_round_trip.proofs.Composed.{then, next, last, nothing, regroup, left, right, no_more, no_more_within, one_more_within, chain_ends, chain_goes_on}
use Rattle.ir_round_trip.proofs.PrintedNames.{local_read}
use Rattle.ir_round_trip.proofs.Tokens.{single, by_class, by_classes, by_value}
use Rattle.ir_round_trip.proofs.Types.{register_read, result_read}
use Rattle.ir_round_trip.proofs.Words.{comma_read, open_paren_read, close_paren_read}

-- ---- linkages

abbrev IsAll : List (Option Linkage) → List (Option Linkage) → Type 0
IsAll want all = all ≡ want

prefix_as : (role : Role) {want : List (Option Linkage)} {ps : List Piece} (l : Linkage) → fold with_linkage linkages.External want ≡ l → Parses (Chain at_will (leading role) false) (IsAll want) ps → Parses (prefix role) (λ x. x ≡ l) ps
unfolding prefix
prefix_as role l e r = last r (λ all h. nothing (ap (fold with_linkage linkages.External) h ∙ e))

linked : (l : Linkage) (c : ℕ) (cs : List ℕ) (h : class.TokenKind) → kind_of forms.Word (c ∷ cs) [] ≡ h → contains (linkages_of roles.Definition) (number h) ≡ true → linkage_by h ≡ l → Parses (prefix roles.Definition) (λ x. x ≡ l) (word space (c ∷ cs))
unfolding linking
linked l c cs h is there means =
    prefix_as roles.Definition {want = Some l ∷ []} l refl (chain_goes_on at_will (leading roles.Definition) false true {P = λ o. o ≡ Some l} {Q = IsAll []} {ps = word space (c ∷ cs)} {qs = []}
    (left _ (last (single space forms.Word c cs (by_classes {P = λ x. x ≡ l} refusal (linkages_of roles.Definition) linkage_word forms.Word (c ∷ cs) (ap (λ (g : class.TokenKind). contains (linkages_of roles.Definition) (number g)) is ∙ there) (λ t i. ap linkage_by (i.kind ∙ is) ∙ means))) (λ x e. nothing (ap Some e, refl))))
    (chain_ends at_will (leading roles.Definition) true refl refl) (λ o more p q. ap (λ x. x ∷ more) p ∙ ap (λ xs. Some l ∷ xs) q))

unlinked : (role : Role) → Parses (prefix role) (λ x. x ≡ linkages.External) []
unlinked role = prefix_as role {want = []} linkages.External refl (chain_ends at_will (leading role) false refl refl)

linkage_read : (l : Linkage) → Parses (prefix roles.Definition) (λ x. x ≡ l) (printed.linkage l)
unfolding kind_of word_kind listed_kind words_4 words_7 words_8 words_12 words_20
linkage_read linkages.Private = linked linkages.Private _ _ kinds.Private refl refl refl
linkage_read linkages.Internal = linked linkages.Internal _ _ kinds.Internal refl refl refl
linkage_read linkages.External = unlinked roles.Definition
linkage_read linkages.Linkonce = linked linkages.Linkonce _ _ kinds.Linkonce refl refl refl
linkage_read linkages.LinkonceOdr = linked linkages.LinkonceOdr _ _ kinds.LinkonceOdr refl refl refl
linkage_read linkages.Weak = linked linkages.Weak _ _ kinds.Weak refl refl refl
linkage_read linkages.WeakOdr = linked linkages.WeakOdr _ _ kinds.WeakOdr refl refl refl
linkage_read linkages.AvailableExternally = linked linkages.AvailableExternally _ _ kinds.AvailableExternally refl refl refl

-- ---- names

global_in : (role : Role) (l : Linkage) → contains (names_of role l) (number kinds.Global) ≡ true
global_in roles.Declaration l = refl
global_in roles.Definition l = by_test (is_local l)
  where
    by_test : (b : Bool) → contains (cond b (read.NUMBERED ++ read.GLOBAL) read.GLOBAL) (number kinds.Global) ≡ true
    by_test true = refl
    by_test false = refl

name_read : (role : Role) (l : Linkage) (name : List ℕ) → IsName name → IsOrdinary name → Parses (function_name role l) (IsGlobal name) (global space name)
name_read role l name n o =
    single space forms.Global _ _ (by_value name_refusal (names_of role l) global_named forms.Global (64 ∷ quoted name) (ap (λ (g : class.TokenKind). contains (names_of role l) (number g)) (global_class name n o) ∙ global_in role l)
    (λ t i. (t, ap (λ (g : class.TokenKind). global_by g t) (i.kind ∙ global_class name n o), record { form = i.form; text = i.text })))

-- ---- parameters

no_attributes : Parses parameter_attributes Any []
unfolding parameter_attributes
no_attributes = last (no_more {P = Any} tt) (λ all u. nothing tt)

param_read : (blank : List ℕ) (p : Param) → ParamReadable p → Parses param (IsParam p) (printed.param blank p)
unfolding param
param_read blank p h = next _ (register_read blank p.reg h.reg) (then no_attributes (λ a u. last (left _ (last (local_read space p.local h.local) (λ t i. nothing {P = IsNamed p.local} i))) (λ o i. nothing (refl, i))))

type_read : (blank : List ℕ) (p : Param) → ParamReadable p → Parses param (IsType p) (register blank p.reg)
unfolding param
type_read blank p h = last (register_read blank p.reg h.reg) (λ r e. then no_attributes (λ a u. then (right _ (nothing {P = λ o. o ≡ None} refl)) (λ o i. nothing (e, i))))

-- how the parameters of a definition and of a declaration are printed
module _ (R : Param → raw_param.Param → Type 0) (one : List ℕ → Param → List Piece) (reads : (blank : List ℕ) (p : Param) → ParamReadable p → Parses param (R p) (one blank p)) where
  abbrev further_pieces : List Param → List Piece
  further_pieces [] = []
  further_pieces (p ∷ ps) = (comma ++ one space p) ++ further_pieces ps

  abbrev listed_pieces : List Param → List Piece
  listed_pieces [] = []
  listed_pieces (p ∷ ps) = one tight p ++ further_pieces ps

  further_read : (room : ℕ) (ps : List Param) → length ps ≤ room → Each ParamReadable ps → Parses (Many further_param room) (Paired R ps) (further_pieces ps)
  unfolding further_param
  further_read room [] few h = no_more_within room tt
  further_read zero (p ∷ ps) few h = absurd (omega (arith, few))
  further_read (suc room) (p ∷ ps) few h = one_more_within room (then comma_read (λ a u. reads space p h.0)) (further_read room ps (omega (arith, few)) h.1) (λ x xs q r. (q, r))

  params_read : (room : ℕ) (ps : List Param) → length ps ≤ suc room → Each ParamReadable ps → Parses (params room) (Paired R ps) (mark tight 40 ++ (listed_pieces ps ++ mark tight 41))
  unfolding params listed_params some_params kind_of mark_kind
  params_read room [] few h = then (open_paren_read tight) (λ a u. right _ (last (single tight forms.Other 41 [] (by_class type_refusal kinds.CloseParen forms.Other (41 ∷ []) refl)) (λ b v. nothing tt)))
  params_read room (p ∷ ps) few h =
      then (open_paren_read tight) (λ a u. left _ (then (then (reads tight p h.0) (λ x q. last (further_read room ps (omega (arith, few)) h.1) (λ xs r. nothing {P = Paired R (p ∷ ps)} (q, r)))) (λ all k. last (close_paren_read tight) (λ b v. nothing k))))

-- ---- heads

as_params : (ps : List Param) → listed_pieces IsParam printed.param param_read ps ≡ printed.params ps
as_params [] = refl
as_params (p ∷ ps) = ap (λ (qs : List Piece). printed.param tight p ++ qs) (more ps)
  where
    more : (ps : List Param) → further_pieces IsParam printed.param param_read ps ≡ printed.further_params ps
    more [] = refl
    more (p ∷ ps) = ap (λ (qs : List Piece). (comma ++ printed.param space p) ++ qs) (more ps)

as_types : (ps : List Param) → listed_pieces IsType (λ blank p. register blank p.reg) type_read ps ≡ printed.types ps
as_types [] = refl
as_types (p ∷ ps) = ap (λ (qs : List Piece). register tight p.reg ++ qs) (more ps)
  where
    more : (ps : List Param) → further_pieces IsType (λ blank p. register blank p.reg) type_read ps ≡ printed.further_types ps
    more [] = refl
    more (p ∷ ps) = ap (λ (qs : List Piece). (comma ++ register space p.reg) ++ qs) (more ps)

pub head_read : (room : ℕ) (f : Function) → HeadReadable room f → Parses (head roles.Definition room) (IsHead f) (head_pieces f)
unfolding head
head_read room f h =
    then (linkage_read f.linkage) (λ l e. regroup (result f.result) _ _ (then (result_read f.result h.result) (λ r d. then (name_read roles.Definition l f.symbol.name h.name h.ordinary) (λ t n.
    last (subst (λ (qs : List Piece). Parses (params room) (Paired IsParam f.params) (mark tight 40 ++ (qs ++ mark tight 41))) (as_params f.params) (params_read IsParam printed.param param_read room f.params h.few h.params))
    (λ ps p. nothing (record { linkage = e; result = d; name = n; params = p; noinline = refl; optnone = refl; groups = refl }))))))

pub declared_read : (room : ℕ) (f : Function) → HeadReadable room f → Parses (head roles.Declaration room) (IsDeclared f) (declared_pieces f)
unfolding head
declared_read room f h =
    then (unlinked roles.Declaration) (λ l e. regroup (result f.result) _ _ (then (result_read f.result h.result) (λ r d. then (name_read roles.Declaration l f.symbol.name h.name h.ordinary) (λ t n.
    last (subst (λ (qs : List Piece). Parses (params room) (Paired IsType f.params) (mark tight 40 ++ (qs ++ mark tight 41))) (as_types f.params) (params_read IsType (λ blank p. register blank p.reg) type_read room f.params h.few h.params))
    (λ ps p. nothing (record { linkage = e; result = d; name = n; params = p; noinline = refl; optnone = refl; groups = refl }))))))

-- a definition is its word, its head, its attributes and its body
pub definition_pieces : (f : Function) → definition f ≡ word tight (codes "define") ++ (head_pieces f ++ (attributes f ++ body f.blocks))
definition_pieces f =
    let rest : List Piece = attributes f ++ body f.blocks in
    let define : List Piece = word tight (codes "define") in
    ap (λ (qs : List Piece). define ++ qs) (sym (
    append_assoc (printed.linkage f.linkage) (signature f ++ (printed.params f.params ++ mark tight 41)) rest
    ∙ ap (λ (qs : List Piece). printed.linkage f.linkage ++ qs) (append_assoc (signature f) (printed.params f.params ++ mark tight 41) rest
    ∙ ap (λ (qs : List Piece). signature f ++ qs) (append_assoc (printed.params f.params) (mark tight 41) rest))))
