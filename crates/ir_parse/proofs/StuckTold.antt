-- Where the grammar stops, its fault is told for what the token at which it does is refused for; and a token is refused for one thing.
use Rattle.std.proofs.Common.{◌≡◌, ℕ, Bool, true, false, cond, ◌||◌, ◌⊎◌, inl, inr, List, [], ◌∷◌, ◌++◌, length, refl, sym, ap, subst, ◌∙◌, append_assoc}
use Rattle.ir_lex.specs.TokenKinds.{number}
use Rattle.ir_lex.specs.Tok.{Tok}
use Rattle.ir_lex.specs.declared.token_kind.TokenKind.TheVariants as kinds
use Rattle.ir_parse_parts.specs.Alphabet.{among, contains, is_literal}
use Rattle.ir_parse_parts.specs.Faults as faults
use Rattle.ir_parse_parts.specs.Faults.{FitsBound, FitsKind}
use Rattle.ir_parse_parts.specs.declared.fault.Fault.{Fault}
use Rattle.ir_parse_parts.specs.declared.fault.TokenFault.{TokenFault}
use Rattle.ir_parse_parts.specs.declared.fault.TokenFault.TheVariants.{Syntax, Profile, Number, Limit}
use Rattle.ir_parse_parts.proofs.Composed.{cons_is, cut_is, wrong}
use Rattle.ir_parse_parts.proofs.Rules.{apart_from}
use Rattle.ir_parse_parts.specs.Classes.{tokens}
use Rattle.ir_parse_heads.specs.FunctionHeads.{NUMBERED}
use Rattle.ir_parse_heads.specs.Targets.{STRING}
use Rattle.ir_parse.specs.Modules.{any_module, module_of, whole_module}
use Rattle.ir_parse.specs.Kinds.{grammar_fault}
use Rattle.ir_parse.specs.Refusals.{BeginsVector, GoesOn, INTEGER, IsRefusedFor, LeftOut, MARKER, NumberGoesOn, REFUSED_EVERYWHERE, TARGET, TYPE, WithinRange, everywhere, of_integer, of_marker, of_name, of_target, of_type, of_vector}
use Rattle.ir_tree.specs.declared.fault_kind.FaultKind.{FaultKind}
use Rattle.ir_tree.specs.declared.fault_kind.FaultKind.TheVariants as unread
use Rattle.ir_parse.proofs.ExchangedPlaces.{left_out, no_string, not_left_out, string_left_out}
use Rattle.ir_parse.proofs.Told.{AllowedAt, REFUSED_SOMEWHERE, never_class}
use Rattle.ir_parse.proofs.ToldModules.{module_kind, module_limit, module_told}

behind_first : (a b : Bool) → a || false ≡ false → a || b ≡ true → b ≡ true
behind_first true b e h = absurd (cc e)
behind_first false b e h = h

-- ---- the fault is told for it

module _ (front : List Tok) (t : Tok) (rest : List Tok) where
  abbrev ts : List Tok
  ts = front ++ t ∷ rest

  abbrev left : ℕ
  left = length (t ∷ rest)

  abbrev literal : Bool
  literal = is_literal tokens t

  bool_is : (b : Bool) → (b ≡ false → ⊥) → b ≡ true
  bool_is true n = refl
  bool_is false n = absurd (n refl)

  bool_not : (b : Bool) → (b ≡ true → ⊥) → b ≡ false
  bool_not true n = absurd (n refl)
  bool_not false n = refl

  other_number : faults.NumberGoesOn tokens whole_module ts left → NumberGoesOn front t
  other_number v =
      let c = cut_is front (t ∷ rest) v.front (v.bad ∷ v.rest) v.whole (sym v.here) in
      let bad : t ≡ v.bad = (cons_is t v.bad rest v.rest c.1).0 in (
        ap (λ (u : Tok). contains tokens.numerals (number u.kind)) bad ∙ v.bad_is,
        v.good,
        v.good_is ∙ ap (λ (u : Tok). number u.kind) (sym bad),
        v.real.0,
        (v.more, v.value, subst (λ (us : List Tok). whole_module us v.value) (ap (λ (us : List Tok). us ++ v.good ∷ v.more) (sym c.0) ∙ sym (append_assoc front (v.good ∷ []) v.more)) v.spelled, v.real.1),
      )

  past_limit : faults.LimitGoesOn tokens any_module ts left → GoesOn front t
  past_limit v =
      let c = cut_is front (t ∷ rest) v.front (v.bad ∷ v.rest) v.whole (sym v.here) in
      let same : v.front ++ v.bad ∷ v.more ≡ (front ++ t ∷ []) ++ v.more = ap (λ (us : List Tok). us ++ v.bad ∷ v.more) (sym c.0) ∙ ap (λ (u : Tok). front ++ u ∷ v.more) (sym (cons_is t v.bad rest v.rest c.1).0) ∙ sym (append_assoc front (t ∷ []) v.more) in
      (v.more, v.value, subst (λ (us : List Tok). any_module us v.value) same v.spelled, v.real)

  -- neither a limit nor a range
  within : faults.NoNumberGoesOn tokens whole_module ts left → faults.NoneGoesOn tokens any_module ts left → WithinRange front t
  within n l = (λ v. l front t rest refl refl (v.0, v.1, v.2), λ v. n front t rest refl refl v.0 v.1 v.2 (v.4.0, v.4.1, v.4.2))

  abbrev Refused : TokenFault → Type 0
  Refused k = module_of ts ≡ wrong (record { left = left; kind = k })

  -- what the next token allows, but for a string
  somewhere : among tokens STRING t ≡ false → AllowedAt front (t ∷ rest) Profile → (contains (REFUSED_EVERYWHERE ++ REFUSED_SOMEWHERE) (number t.kind) ≡ true) ⊎ BeginsVector front t
  somewhere e (inl may) = inl (behind_first _ _ e may)
  somewhere e (inr v) = inr v

  everywhere_not : AllowedAt front (t ∷ rest) Syntax → contains REFUSED_EVERYWHERE (number t.kind) ≡ false
  everywhere_not (inl a) = a
  everywhere_not (inr v) = never_class (number kinds.Number) refl (number t.kind) v.0

  by_string : (b : Bool) → among tokens STRING t ≡ b → Refused Profile → AllowedAt front (t ∷ rest) Profile → WithinRange front t → IsRefusedFor front t (cond b unread.Layout (unread.Profile t.text))
  by_string true c e a w = (w, string_left_out front t rest e c)
  by_string false c e a w = (refl, w, left_out front t rest e (somewhere c a))

  by_kind : (k : TokenFault) → Refused k → AllowedAt front (t ∷ rest) k → FitsKind tokens whole_module ts left k → FitsBound tokens any_module ts left k → IsRefusedFor front t (grammar_fault t k)
  by_kind Syntax e a n l = (within n l, no_string front t rest e, not_left_out front t rest e (everywhere_not a))
  by_kind Profile e a n l = by_string (among tokens STRING t) refl e a (within n l)
  by_kind Number e a n l = (other_number n, λ v. bool_not literal (λ q. l front t rest refl refl q (v.0, v.1, v.2)))
  by_kind Limit e a n l = (past_limit l, λ v. bool_is literal (λ q. n front t rest refl refl v.0 q v.1 v.2 (v.4.0, v.4.1, v.4.2)))

  pub refused_for : (k : TokenFault) → Refused k → IsRefusedFor front t (grammar_fault t k)
  refused_for k e =
      let f : Fault = record { left = left; kind = k } in
      let m = module_told ts f e in
      let same = cut_is front (t ∷ rest) m.0 m.1 m.2 (sym m.3) in
      by_kind k e (subst (λ (z : List Tok × List Tok). AllowedAt z.0 z.1 k) (λ i. (sym same.0 i, sym same.1 i)) m.4) (module_kind ts f e) (module_limit ts f e)

-- ---- it is refused for one thing

module _ (front : List Tok) (t : Tok) where
  -- no string is left out as a word
  no_string_left_out : among tokens STRING t ≡ true → LeftOut front t → ⊥
  no_string_left_out s (everywhere c) = apart_from STRING REFUSED_EVERYWHERE refl (number t.kind) s c
  no_string_left_out s (of_type c g) = apart_from STRING TYPE refl (number t.kind) s c
  no_string_left_out s (of_target c g w) = apart_from STRING TARGET refl (number t.kind) s c
  no_string_left_out s (of_integer c g) = apart_from STRING INTEGER refl (number t.kind) s c
  no_string_left_out s (of_name c g) = apart_from STRING NUMBERED refl (number t.kind) s c
  no_string_left_out s (of_marker c v) = apart_from STRING MARKER refl (number t.kind) s c
  no_string_left_out s (of_vector v g) = apart_from STRING (number kinds.Number ∷ []) refl (number t.kind) s (ap (λ (b : Bool). b || false) v.0)

  both : true ≡ false → ⊥
  both e = cc

  -- a limit and a range are told apart by whether it is a literal
  no_limit_and_number : IsRefusedFor front t unread.Limit → IsRefusedFor front t unread.Number → ⊥
  no_limit_and_number l n = both (sym (l.1 n.0) ∙ n.1 l.0)

  pub one_kind : (kind other : FaultKind) → IsRefusedFor front t kind → IsRefusedFor front t other → kind ≡ other
  one_kind unread.Limit unread.Limit a b = refl
  one_kind unread.Limit unread.Number a b = absurd (no_limit_and_number a b)
  one_kind unread.Limit unread.Layout a b = absurd (b.0.0 a.0)
  one_kind unread.Limit (unread.Profile word) a b = absurd (b.1.0 a.0)
  one_kind unread.Limit unread.Syntax a b = absurd (b.0.0 a.0)
  one_kind unread.Limit other a b = absurd b
  one_kind unread.Number unread.Limit a b = absurd (no_limit_and_number b a)
  one_kind unread.Number unread.Number a b = refl
  one_kind unread.Number unread.Layout a b = absurd (b.0.1 a.0)
  one_kind unread.Number (unread.Profile word) a b = absurd (b.1.1 a.0)
  one_kind unread.Number unread.Syntax a b = absurd (b.0.1 a.0)
  one_kind unread.Number other a b = absurd b
  one_kind unread.Layout unread.Limit a b = absurd (a.0.0 b.0)
  one_kind unread.Layout unread.Number a b = absurd (a.0.1 b.0)
  one_kind unread.Layout unread.Layout a b = refl
  one_kind unread.Layout (unread.Profile word) a b = absurd (no_string_left_out a.1.0 b.2)
  one_kind unread.Layout unread.Syntax a b = absurd (b.1 a.1)
  one_kind unread.Layout other a b = absurd b
  one_kind (unread.Profile word) unread.Limit a b = absurd (a.1.0 b.0)
  one_kind (unread.Profile word) unread.Number a b = absurd (a.1.1 b.0)
  one_kind (unread.Profile word) unread.Layout a b = absurd (no_string_left_out b.1.0 a.2)
  one_kind (unread.Profile word) (unread.Profile other) a b = ap (λ (w : List ℕ). unread.Profile w) (a.0 ∙ sym b.0)
  one_kind (unread.Profile word) unread.Syntax a b = absurd (b.2 a.2)
  one_kind (unread.Profile word) other a b = absurd b
  one_kind unread.Syntax unread.Limit a b = absurd (a.0.0 b.0)
  one_kind unread.Syntax unread.Number a b = absurd (a.0.1 b.0)
  one_kind unread.Syntax unread.Layout a b = absurd (a.1 b.1)
  one_kind unread.Syntax (unread.Profile word) a b = absurd (a.2 b.2)
  one_kind unread.Syntax unread.Syntax a b = refl
  one_kind unread.Syntax other a b = absurd b
  one_kind kind other a b = absurd a
