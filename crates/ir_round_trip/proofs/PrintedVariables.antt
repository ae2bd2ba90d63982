-- Printed variables are read (LangRef, "Global Variables").
use Rattle.std.proofs.Common.{◌≡◌, ℕ, Bool, true, false, nat_eq, Option, Some, None, List, [], ◌∷◌, codes, refl, sym, ap, subst, ◌∙◌}
use Rattle.ir_parse_globals.specs.Initialisers.{scalar_of}
use Rattle.ir_parse_globals.specs.Variables as read
use Rattle.ir_parse_globals.specs.Variables.{NAMES, KINDS, variable_name, qualifiers, is_constant, is_declared, value, behind_kind, variable_line}
use Rattle.ir_lex.specs.TokenKinds.{number, kind_of, word_kind, listed_kind, words_4, words_6, words_7, words_8, words_12, words_20}
use Rattle.ir_lex.specs.declared.token_kind.TokenKind.{TokenKind}
use Rattle.ir_lex.specs.declared.token_kind.TokenKind.TheVariants as kinds
use Rattle.ir_lex.specs.declared.token.TokenForm.TheVariants as forms
use Rattle.ir_print.specs.Functions.{linkage}
use Rattle.ir_print.specs.Tokens.{tight, space, word, global}
use Rattle.ir_print.specs.Types.{shape}
use Rattle.ir_print.specs.Variables as printed
use Rattle.ir_print.specs.Variables.{kind_word, given}
use Rattle.ir_parse_parts.specs.Operands.{global_by, global_named}
use Rattle.ir_parse_parts.specs.Classes.{refusal, one_of}
use Rattle.ir_parse_heads.specs.FunctionHeads.{LINKAGES, linkage_by, linkage_word, with_linkage, name_refusal}
use Rattle.ir_parse_operands.specs.ShapeForms.{memory_shape}
use Rattle.ir_parse_parts.specs.Shapes.{Written}
use Rattle.ir_tree.specs.Initials.{Initial}
use Rattle.ir_tree.specs.Names.{quoted}
use Rattle.ir_tree.specs.declared.function.Linkage.{Linkage}
use Rattle.ir_tree.specs.declared.function.Linkage.TheVariants as linkages
use Rattle.ir_tree.specs.declared.function.Variable.{Variable}
use Rattle.ir_parse_parts.specs.Alphabet.{contains}
use Rattle.ir_round_trip.specs.Variables.{IsInitOf, IsVariableItem, linkage_of}
use Rattle.ir_round_trip.specs.VariablesReadable.{InitReadable, VariableReadable}
use Rattle.ir_round_trip.proofs.Alignments.{tail_read}
use Rattle.ir_round_trip.proofs.PrintedInitialisers.{initialiser_read}
use Rattle.ir_round_trip.specs.Classes.{IsOrdinary}
use Rattle.ir_round_trip.specs.Printable.{IsName}
use Rattle.ir_round_trip.proofs.Classes.{global_class}
use Rattle.ir_round_trip.specs.PartsPrinted.{IsGlobal, written_shape}
use Rattle.ir_round_trip.specs.Reads.{Parses, Any}
use Rattle.ir_round_trip.proofs.Composed.{then, next, last, nothing, left, right, no_more}
use Rattle.ir_round_trip.proofs.Rooms.{memory_shape_read}
use Rattle.ir_round_trip.proofs.Tokens.{single, by_classes, by_value}
use Rattle.ir_round_trip.proofs.Words.{equals_read}

-- ---- before the shape

name_read : (name : List ℕ) → IsName name → IsOrdinary name → Parses variable_name (IsGlobal name) (global tight name)
name_read name n o =
    single tight forms.Global _ _ (by_value name_refusal NAMES global_named forms.Global (64 ∷ quoted name) (ap (λ (g : TokenKind). contains NAMES (number g)) (global_class name n o)) (λ t i. (t, ap (λ (g : TokenKind). global_by g t) (i.kind ∙ global_class name n o), record { form = i.form; text = i.text })))

no_qualifiers : Parses qualifiers Any []
unfolding qualifiers
no_qualifiers = last (no_more {P = Any} tt) (λ all u. nothing tt)

-- the linkage that is written
abbrev written_linkage : Option Initial → Linkage → Option Linkage
written_linkage None l = Some linkages.External
written_linkage (Some v) linkages.External = None
written_linkage (Some v) l = Some l

linked_word : (l : Linkage) (c : ℕ) (cs : List ℕ) (h : TokenKind) → kind_of forms.Word (c ∷ cs) [] ≡ h → contains LINKAGES (number h) ≡ true → linkage_by h ≡ l → Parses read.linked (λ x. x ≡ Some l) (word space (c ∷ cs))
unfolding read.linked
linked_word l c cs h is there means =
    last (left _ (last (single space forms.Word c cs (by_classes {P = λ x. x ≡ l} refusal LINKAGES linkage_word forms.Word (c ∷ cs) (ap (λ (g : TokenKind). contains LINKAGES (number g)) is ∙ there) (λ t i. ap linkage_by (i.kind ∙ is) ∙ means))) (λ x e. nothing {P = λ o. o ≡ Some l} (ap Some e))))
    (λ o e. then no_qualifiers (λ a u. nothing e))

unlinked : Parses read.linked (λ x. x ≡ None) []
unfolding read.linked
unlinked = then (right _ (nothing {P = λ o. o ≡ None} refl)) (λ o e. then no_qualifiers (λ a u. nothing e))

linked_read : (init : Option Initial) (l : Linkage) → Parses read.linked (λ x. x ≡ written_linkage init l) (printed.linked init l)
unfolding kind_of word_kind listed_kind words_4 words_7 words_8 words_12 words_20
linked_read None l = linked_word linkages.External _ _ kinds.External refl refl refl
linked_read (Some v) linkages.Private = linked_word linkages.Private _ _ kinds.Private refl refl refl
linked_read (Some v) linkages.Internal = linked_word linkages.Internal _ _ kinds.Internal refl refl refl
linked_read (Some v) linkages.External = unlinked
linked_read (Some v) linkages.Linkonce = linked_word linkages.Linkonce _ _ kinds.Linkonce refl refl refl
linked_read (Some v) linkages.LinkonceOdr = linked_word linkages.LinkonceOdr _ _ kinds.LinkonceOdr refl refl refl
linked_read (Some v) linkages.Weak = linked_word linkages.Weak _ _ kinds.Weak refl refl refl
linked_read (Some v) linkages.WeakOdr = linked_word linkages.WeakOdr _ _ kinds.WeakOdr refl refl refl
linked_read (Some v) linkages.AvailableExternally = linked_word linkages.AvailableExternally _ _ kinds.AvailableExternally refl refl refl

-- as a variable's linkage, and as what says that it is only declared
abbrev none : Option Initial → Bool
none None = true
none (Some v) = false

linkage_again : (init : Option Initial) (l : Linkage) → (with_linkage linkages.External (written_linkage init l) ≡ linkage_of init l) × (is_declared (written_linkage init l) ≡ none init)
linkage_again None l = (refl, refl)
linkage_again (Some v) linkages.Private = (refl, refl)
linkage_again (Some v) linkages.Internal = (refl, refl)
linkage_again (Some v) linkages.External = (refl, refl)
linkage_again (Some v) linkages.Linkonce = (refl, refl)
linkage_again (Some v) linkages.LinkonceOdr = (refl, refl)
linkage_again (Some v) linkages.Weak = (refl, refl)
linkage_again (Some v) linkages.WeakOdr = (refl, refl)
linkage_again (Some v) linkages.AvailableExternally = (refl, refl)

kind_read : (constant : Bool) → Parses (one_of KINDS is_constant) (λ b. b ≡ constant) (kind_word constant)
unfolding kind_of word_kind listed_kind words_6 words_8
kind_read true = single space forms.Word _ _ (by_classes refusal KINDS is_constant forms.Word (codes "constant") refl (λ t i. ap (λ (h : TokenKind). nat_eq (number h) (number kinds.Constant)) i.kind))
kind_read false = single space forms.Word _ _ (by_classes refusal KINDS is_constant forms.Word (codes "global") refl (λ t i. ap (λ (h : TokenKind). nat_eq (number h) (number kinds.Constant)) i.kind))

-- ---- behind the shape

given_read : (v : Variable) (init : Option Initial) → InitReadable v.shape init → Parses (value memory_shape (none init) (scalar_of (written_shape v.shape))) (IsInitOf init) (given init)
given_read v None h = nothing tt
given_read v (Some i) h = last (initialiser_read v.shape i h) (λ x p. nothing p)

-- ---- variables

pub variable_read : (v : Variable) → VariableReadable v → Parses (variable_line variable_name memory_shape) (IsVariableItem v) (printed.variable v)
unfolding variable_line behind_kind
variable_read v h =
    let l : Option Linkage = written_linkage v.init v.linkage in
    let again = linkage_again v.init v.linkage in
    then (name_read v.symbol.name h.name h.ordinary) (λ t n. then (equals_read space) (λ a u. next _ (linked_read v.init v.linkage) (next _ (kind_read v.constant) (then (memory_shape_read space v.shape h.shape) (λ typed s.
    then (subst (λ (w : Written). Parses (value memory_shape (is_declared l) (scalar_of w)) (IsInitOf v.init) (given v.init)) (sym s)
    (subst (λ (b : Bool). Parses (value memory_shape b (scalar_of (written_shape v.shape))) (IsInitOf v.init) (given v.init)) (sym again.1) (given_read v v.init h.init)))
    (λ i p. last (tail_read v.align h.align) (λ n' e. nothing (record { name = n; linkage = again.0; constant = refl; shape = s; init = p; align = e }))))))))
