-- Where the grammar stops at a token that is left out in some places, it is told as such exactly where one that it stands for goes on.
use Rattle.std.proofs.Common.{◌≡◌, ℕ, Bool, true, false, true≢false, ◌||◌, ◌⊎◌, inl, inr, List, [], ◌∷◌, ◌++◌, length, Err, refl, sym, ap, subst, ◌∙◌, append_assoc}
use Rattle.ir_lex.specs.TokenKinds.{number}
use Rattle.ir_lex.specs.Tok.{Tok}
use Rattle.ir_lex.specs.declared.token_kind.TokenKind.TheVariants as kinds
use Rattle.ir_lex.specs.declared.token_kind.TokenKind.{TokenKind}
use Rattle.ir_parse_parts.proofs.Composed.{wrong}
use Rattle.ir_parse_parts.proofs.Rules.{within_of}
use Rattle.ir_parse_parts.specs.Alphabet.{among, contains}
use Rattle.ir_parse_parts.specs.declared.fault.TokenFault.TheVariants.{Syntax, Profile}
use Rattle.ir_parse_parts.specs.declared.fault.TokenFault.{TokenFault}
use Rattle.ir_parse_parts.specs.Classes.{IsReal, tokens}
use Rattle.ir_parse_heads.specs.FunctionHeads.{GLOBAL, NUMBERED}
use Rattle.ir_parse_parts.specs.Operands.{REG}
use Rattle.ir_parse_heads.specs.Targets.{STRING}
use Rattle.ir_parse_operands.specs.ShapeForms.{OPEN_BRACE}
use Rattle.ir_parse.specs.Modules.{any_module, module_of}
use Rattle.ir_parse.specs.NamedCalls.{in_module}
use Rattle.ir_parse.specs.Refusals.{BeginsVector, GoesOn, INTEGER, LeftOut, MARKER, MEMORY, NoneGoesOn, REFUSED_EVERYWHERE, SomeGoesOn, StringGoesOn, TARGET, TYPE, WORD, everywhere, of_integer, of_marker, of_name, of_target, of_type, of_vector}
use Rattle.ir_parse.proofs.Exchanged.{differ, Goes, IsTold, NotTold, Outcome, SOMEWHERE, Stuck, is_angled}
use Rattle.ir_parse.proofs.ExchangedModules.{all_at, module_exchanged, none_goes_on, split, string_placed, vector_placed}
use Rattle.ir_parse.proofs.NamedCallees.{never_left_out}
use Rattle.ir_parse.proofs.Told.{REFUSED_SOMEWHERE}

-- ---- what is said of each class

only_type : (P : TokenKind → Type 0) → P kinds.RefusedType → (h : TokenKind) → contains TYPE (number h) ≡ true → P h
only_type P p kinds.RefusedType e = p
only_type P p h e = absurd (differ e)

only_target : (P : TokenKind → Type 0) → P kinds.Target → (h : TokenKind) → contains TARGET (number h) ≡ true → P h
only_target P p kinds.Target e = p
only_target P p h e = absurd (differ e)

only_integer : (P : TokenKind → Type 0) → P kinds.RegisterInteger → (h : TokenKind) → contains INTEGER (number h) ≡ true → P h
only_integer P p kinds.RegisterInteger e = p
only_integer P p h e = absurd (differ e)

only_numbered : (P : TokenKind → Type 0) → P kinds.NumberedGlobal → P kinds.NumberedDefinition → (h : TokenKind) → contains NUMBERED (number h) ≡ true → P h
only_numbered P p q kinds.NumberedGlobal e = p
only_numbered P p q kinds.NumberedDefinition e = q
only_numbered P p q h e = absurd (differ e)

type_told : (b : Bool) (h : TokenKind) (S G : Tok → Type 0) → contains TYPE (number h) ≡ true → IsTold b h S G → (u : Tok) × (among tokens REG u ≡ true) × G u
type_told b h S G e n = only_type (λ (h : TokenKind). IsTold b h S G → (u : Tok) × (among tokens REG u ≡ true) × G u) (λ n. n) h e n

target_told : (b : Bool) (h : TokenKind) (S G : Tok → Type 0) → contains TARGET (number h) ≡ true → IsTold b h S G → ((u : Tok) × (among tokens REG u ≡ true) × G u) × ((w : Tok) → among tokens WORD w ≡ true → S w)
target_told b h S G e n = only_target (λ (h : TokenKind). IsTold b h S G → ((u : Tok) × (among tokens REG u ≡ true) × G u) × ((w : Tok) → among tokens WORD w ≡ true → S w)) (λ n. n) h e n

integer_told : (b : Bool) (h : TokenKind) (S G : Tok → Type 0) → contains INTEGER (number h) ≡ true → IsTold b h S G → (u : Tok) → among tokens MEMORY u ≡ true → IsReal u → G u
integer_told b h S G e n = only_integer (λ (h : TokenKind). IsTold b h S G → (u : Tok) → among tokens MEMORY u ≡ true → IsReal u → G u) (λ n. n) h e n

name_told : (b : Bool) (h : TokenKind) (S G : Tok → Type 0) → contains NUMBERED (number h) ≡ true → IsTold b h S G → (u : Tok) × (among tokens GLOBAL u ≡ true) × G u
name_told b h S G e n = only_numbered (λ (h : TokenKind). IsTold b h S G → (u : Tok) × (among tokens GLOBAL u ≡ true) × G u) (λ n. n) (λ n. n) h e n

type_not : (b : Bool) (h : TokenKind) (S G : Tok → Type 0) (P : Type 0) → contains TYPE (number h) ≡ true → NotTold b h S G P → (u : Tok) → among tokens REG u ≡ true → S u
type_not b h S G P e n = only_type (λ (h : TokenKind). NotTold b h S G P → (u : Tok) → among tokens REG u ≡ true → S u) (λ n. n) h e n

target_not : (b : Bool) (h : TokenKind) (S G : Tok → Type 0) (P : Type 0) → contains TARGET (number h) ≡ true → NotTold b h S G P → ((u : Tok) → among tokens REG u ≡ true → S u) ⊎ ((w : Tok) × (among tokens WORD w ≡ true) × G w)
target_not b h S G P e n = only_target (λ (h : TokenKind). NotTold b h S G P → ((u : Tok) → among tokens REG u ≡ true → S u) ⊎ ((w : Tok) × (among tokens WORD w ≡ true) × G w)) (λ n. n) h e n

integer_not : (b : Bool) (h : TokenKind) (S G : Tok → Type 0) (P : Type 0) → contains INTEGER (number h) ≡ true → NotTold b h S G P → (u : Tok) × (among tokens MEMORY u ≡ true) × IsReal u × S u
integer_not b h S G P e n = only_integer (λ (h : TokenKind). NotTold b h S G P → (u : Tok) × (among tokens MEMORY u ≡ true) × IsReal u × S u) (λ n. n) h e n

name_not : (b : Bool) (h : TokenKind) (S G : Tok → Type 0) (P : Type 0) → contains NUMBERED (number h) ≡ true → NotTold b h S G P → (u : Tok) → among tokens GLOBAL u ≡ true → S u
name_not b h S G P e n = only_numbered (λ (h : TokenKind). NotTold b h S G P → (u : Tok) → among tokens GLOBAL u ≡ true → S u) (λ n. n) (λ n. n) h e n

marker_not : (b : Bool) (h : TokenKind) (S G : Tok → Type 0) (P : Type 0) → contains MARKER (number h) ≡ true → NotTold b h S G P → P
marker_not b kinds.LifetimeMarker S G P e n = n
marker_not b h S G P e n = absurd (differ e)

-- ---- in terms of the grammar

module _ (front : List Tok) (t : Tok) (rest : List Tok) where
  goes_on : (u : Tok) → Goes any_module front u → GoesOn front u
  goes_on u (more, is, s, r) = (more, is, subst (λ (ts : List Tok). any_module ts is) (sym (append_assoc front (u ∷ []) more)) s, r.1)

  some_goes_on : (classes : List ℕ) → (u : Tok) × (among tokens classes u ≡ true) × Goes any_module front u → SomeGoesOn classes front
  some_goes_on classes (u, i, g) = (u, i, g.3.0, goes_on u g)

  -- where none goes on, none of a class does
  none_of : (classes : List ℕ) → NoneGoesOn classes front → SomeGoesOn classes front → ⊥
  none_of classes n (u, i, r, (more, is, s, r')) = n u i (more, is, s)

  abbrev Refused : TokenFault → Type 0
  Refused k = module_of (front ++ t ∷ rest) ≡ wrong (record { left = length (t ∷ rest); kind = k })

  said : (k : TokenFault) → Refused k → (classes : List ℕ) → (contains classes (number t.kind) ≡ true → contains SOMEWHERE (number t.kind) ≡ true) → contains classes (number t.kind) ≡ true → Outcome false in_module any_module all_at front t.kind (Err k)
  said k e classes within c = module_exchanged front t rest k e (within c)

  in_types : contains TYPE (number t.kind) ≡ true → contains SOMEWHERE (number t.kind) ≡ true
  in_types e = within_of TYPE SOMEWHERE refl (number t.kind) e

  in_target : contains TARGET (number t.kind) ≡ true → contains SOMEWHERE (number t.kind) ≡ true
  in_target e = within_of TARGET SOMEWHERE refl (number t.kind) e

  in_integers : contains INTEGER (number t.kind) ≡ true → contains SOMEWHERE (number t.kind) ≡ true
  in_integers e = within_of INTEGER SOMEWHERE refl (number t.kind) e

  in_names : contains NUMBERED (number t.kind) ≡ true → contains SOMEWHERE (number t.kind) ≡ true
  in_names e = within_of NUMBERED SOMEWHERE refl (number t.kind) e

  in_markers : contains MARKER (number t.kind) ≡ true → contains SOMEWHERE (number t.kind) ≡ true
  in_markers e = within_of MARKER SOMEWHERE refl (number t.kind) e

  a_number : (b : Bool) → b ≡ true → b || false ≡ true
  a_number b e = ap (λ (c : Bool). c || false) e

  -- ---- what is told to be left out is so

  module _ (e : Refused Profile) where
    abbrev stuck : Tok → Type 0
    stuck = Stuck all_at front

    abbrev goes : Tok → Type 0
    goes = Goes any_module front

    out_type : contains TYPE (number t.kind) ≡ true → LeftOut front t
    out_type c = of_type c (some_goes_on REG (type_told (is_angled front) t.kind stuck goes c (said Profile e TYPE in_types c)))

    out_target : contains TARGET (number t.kind) ≡ true → LeftOut front t
    out_target c =
        let p = target_told (is_angled front) t.kind stuck goes c (said Profile e TARGET in_target c) in
        of_target c (some_goes_on REG p.0) (λ w i. none_goes_on front w (p.1 w i))

    out_integer : contains INTEGER (number t.kind) ≡ true → LeftOut front t
    out_integer c = of_integer c (λ u i r. goes_on u (integer_told (is_angled front) t.kind stuck goes c (said Profile e INTEGER in_integers c) u i r))

    out_name : contains NUMBERED (number t.kind) ≡ true → LeftOut front t
    out_name c = of_name c (some_goes_on GLOBAL (name_told (is_angled front) t.kind stuck goes c (said Profile e NUMBERED in_names c)))

    out_marker : contains MARKER (number t.kind) ≡ true → LeftOut front t
    out_marker c = of_marker c (λ v. never_left_out front t rest v c e)

    out_vector : BeginsVector front t → LeftOut front t
    out_vector v = of_vector v (some_goes_on OPEN_BRACE (vector_placed front t (a_number _ v.0) v.1 rest Profile e))

    out_somewhere : contains REFUSED_SOMEWHERE (number t.kind) ≡ true → LeftOut front t
    out_somewhere c = elim (split MARKER (TYPE ++ (TARGET ++ (INTEGER ++ NUMBERED))) (number t.kind) c) [
      | inl p ↦ out_marker p
      | inr c ↦ elim (split TYPE (TARGET ++ (INTEGER ++ NUMBERED)) (number t.kind) c) [
        | inl p ↦ out_type p
        | inr c ↦ elim (split TARGET (INTEGER ++ NUMBERED) (number t.kind) c) [ inl p ↦ out_target p | inr c ↦ elim (split INTEGER NUMBERED (number t.kind) c) [ inl p ↦ out_integer p | inr p ↦ out_name p ] ]
      ]
    ]

    pub left_out : (contains (REFUSED_EVERYWHERE ++ REFUSED_SOMEWHERE) (number t.kind) ≡ true) ⊎ BeginsVector front t → LeftOut front t
    left_out (inl c) = elim (split REFUSED_EVERYWHERE REFUSED_SOMEWHERE (number t.kind) c) [ inl p ↦ everywhere p | inr p ↦ out_somewhere p ]
    left_out (inr v) = out_vector v

    -- and at a string another goes on
    pub string_left_out : among tokens STRING t ≡ true → StringGoesOn front t
    string_left_out c = (c, some_goes_on STRING (string_placed front t c rest Profile e))

  -- ---- what is told against the syntax isn't

  module _ (e : Refused Syntax) where
    pub not_left_out : contains REFUSED_EVERYWHERE (number t.kind) ≡ false → LeftOut front t → ⊥
    not_left_out n (everywhere c) = true≢false (sym c ∙ n)
    not_left_out n (of_type c g) = none_of REG (λ u i. none_goes_on front u (type_not (is_angled front) t.kind (Stuck all_at front) (Goes any_module front) (in_module front tt) c (said Syntax e TYPE in_types c) u i)) g
    not_left_out n (of_target c g w) = elim (target_not (is_angled front) t.kind (Stuck all_at front) (Goes any_module front) (in_module front tt) c (said Syntax e TARGET in_target c)) [
      | inl s ↦ none_of REG (λ u i. none_goes_on front u (s u i)) g
      | inr v ↦ none_of WORD w (some_goes_on WORD v)
    ]
    not_left_out n (of_integer c g) =
        let p = integer_not (is_angled front) t.kind (Stuck all_at front) (Goes any_module front) (in_module front tt) c (said Syntax e INTEGER in_integers c) in
        let v = g p.0 p.1 p.2 in
        none_goes_on front p.0 p.3 (v.0, v.1, v.2)
    not_left_out n (of_name c g) = none_of GLOBAL (λ u i. none_goes_on front u (name_not (is_angled front) t.kind (Stuck all_at front) (Goes any_module front) (in_module front tt) c (said Syntax e NUMBERED in_names c) u i)) g
    not_left_out n (of_marker c v) = v (marker_not (is_angled front) t.kind (Stuck all_at front) (Goes any_module front) (in_module front tt) c (said Syntax e MARKER in_markers c))
    not_left_out n (of_vector v g) = none_of OPEN_BRACE (vector_placed front t (a_number _ v.0) v.1 rest Syntax e) g

    pub no_string : StringGoesOn front t → ⊥
    no_string (c, g) = none_of STRING (string_placed front t c rest Syntax e) g
