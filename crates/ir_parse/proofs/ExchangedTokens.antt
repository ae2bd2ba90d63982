-- Single tokens tell one that is left out in some places as such exactly where a token that it stands for goes on.
use Rattle.std.proofs.Common.{sym, ◌++◌, ◌≡◌, ℕ, Bool, true, false, cond, Option, Some, None, ◌&&◌, ◌||◌, not, nat_eq, List, [], ◌∷◌, Result, Ok, Err, refl, ap, subst, ◌∙◌, inl, inr}
use Rattle.std.specs.Prelude.{codes}
use Rattle.ir_lex.specs.Bytes.{has}
use Rattle.ir_lex.specs.TokenKinds.{number, kind_of, word_kind, listed_kind, words_1, words_2, words_3}
use Rattle.ir_lex.specs.Lexing.{is_bad}
use Rattle.ir_lex.specs.Quotes.{is_zero_name}
use Rattle.ir_lex.specs.Rows.{best_fit, rest_fit, label_len, number_len, word_len, name_len, meta_len, dots_len, other_len, string_len}
use Rattle.ir_lex.specs.Tok.{Tok}
use Rattle.ir_lex.specs.declared.token_kind.TokenKind.TheVariants as kinds
use Rattle.ir_lex.specs.declared.token_kind.TokenKind.{TokenKind}
use Rattle.ir_parse_parts.proofs.Rules.{within_of}
use Rattle.ir_parse_parts.specs.Alphabet.{among, contains}
use Rattle.ir_parse_parts.specs.Forms as form
use Rattle.ir_parse_parts.specs.Forms.{Form}
use Rattle.ir_parse_parts.specs.Lawful.{IsBound}
use Rattle.ir_parse_parts.specs.Readers.{token_at, Reader, fault_at, follow, ◌>>=◌, token_means}
use Rattle.ir_parse_parts.specs.Rules.{Rule, disjoint, in_range, is_among, is_class, is_exact, is_valued}
use Rattle.ir_parse_parts.specs.declared.fault.TokenFault.TheVariants.{Syntax, Profile, Number, Limit}
use Rattle.ir_parse_parts.specs.declared.fault.TokenFault.{TokenFault}
use Rattle.ir_parse_parts.specs.Classes.{tokens, IsReal, refusal, the, the_at, one_of, one_of_at}
use Rattle.ir_parse_heads.specs.FunctionHeads.{name_refusal}
use Rattle.ir_parse_parts.specs.Operands.{REG, memory_refusal, type_refusal}
use Rattle.ir_parse_heads.specs.Targets.{STRING}
use Rattle.ir_parse_operands.specs.ShapeForms.{OPEN_ANGLE, angle_refusal}
use Rattle.ir_parse_heads.proofs.FunctionHeadRules.{name_not_number, name_not_limit}
use Rattle.ir_parse_parts.proofs.OperandRules.{type_not_number, type_not_limit, memory_not_number, memory_not_limit}
use Rattle.ir_parse_parts.proofs.Singles.{word, not_number, not_limit}
use Rattle.ir_parse.specs.Refusals.{MEMORY, WORD}
use Rattle.ir_parse.proofs.Exchanged.{Exchanges, Goes, Place, TELLING, Says, SaysAt, Swaps, differ, nowhere, single, single_at, stands_for, apart, a_type, is_target, target_is}

pub i8_real : IsReal (word kinds.MemoryInteger (codes "i8"))
unfolding best_fit rest_fit label_len number_len word_len name_len meta_len dots_len other_len string_len has is_bad is_zero_name kind_of word_kind listed_kind words_2
i8_real = record { behind = []; some = refl; fits = refl; good = refl; class = refl }

pub i16_real : IsReal (word kinds.MemoryInteger (codes "i16"))
unfolding best_fit rest_fit label_len number_len word_len name_len meta_len dots_len other_len string_len has is_bad is_zero_name kind_of word_kind listed_kind words_3
i16_real = record { behind = []; some = refl; fits = refl; good = refl; class = refl }

and_parts : (a b : Bool) → a && b ≡ true → (a ≡ true) × (b ≡ true)
and_parts true b h = (refl, h)
and_parts false b h = absurd cc

left_false : (a b : Bool) → a || b ≡ true → a ≡ false → b ≡ true
left_false true b h e = absurd cc
left_false false b h e = h

bound_is : (k : TokenFault) → IsBound k → (k ≡ Number → ⊥) → (k ≡ Limit → ⊥) → ⊥
bound_is Number b n l = n refl
bound_is Limit b n l = l refl
bound_is Syntax b n l = b
bound_is Profile b n l = b

-- one of this class is taken, or none that it stands for
abbrev pub plain_at : List ℕ → TokenKind → Bool
plain_at wanted h = contains wanted (number h) || disjoint (stands_for false h) wanted

-- so are strings
pub plain_string : (wanted : List ℕ) → plain_at wanted kinds.Str ≡ true
plain_string wanted = by_test (contains wanted (number kinds.Str))
  where
    by_test : (b : Bool) → b || (not b && true) ≡ true
    by_test true = refl
    by_test false = refl

abbrev pub plain_numbers : List ℕ → Bool
plain_numbers wanted = plain_at wanted kinds.RegisterInteger && (plain_at wanted kinds.NumberedGlobal && plain_at wanted kinds.NumberedDefinition)

-- neither `<` nor a plain word is taken
abbrev pub wordless : List ℕ → Bool
wordless wanted = disjoint (OPEN_ANGLE ++ WORD) wanted

abbrev pub plain_types : List ℕ → Bool
plain_types wanted = plain_at wanted kinds.RefusedType && (plain_at wanted kinds.Target && plain_at wanted kinds.RegisterInteger)

-- nor `<`
abbrev pub plain_names : List ℕ → Bool
plain_names wanted = disjoint OPEN_ANGLE wanted && plain_types wanted

abbrev pub plain_globals : List ℕ → Bool
plain_globals wanted = plain_at wanted kinds.NumberedGlobal && plain_at wanted kinds.NumberedDefinition

abbrev pub plain : List ℕ → Bool
plain wanted = plain_names wanted && plain_globals wanted

-- but `<` may be
abbrev pub plain_otherwise : List ℕ → Bool
plain_otherwise wanted = plain_types wanted && plain_globals wanted

both_hold : (a b : Bool) → a ≡ true → b ≡ true → a && b ≡ true
both_hold true b p q = q
both_hold false b p q = absurd cc

otherwise_of : (wanted : List ℕ) → plain wanted ≡ true → plain_otherwise wanted ≡ true
otherwise_of wanted p =
    let one = and_parts (plain_names wanted) (plain_globals wanted) p in
    both_hold (plain_types wanted) (plain_globals wanted) (and_parts (disjoint OPEN_ANGLE wanted) (plain_types wanted) one.0).1 one.1

-- what holds of each class that something is said of, and of the others, holds of all
pub by_telling : (P : TokenKind → Type 0) → P kinds.RefusedType → P kinds.Target → P kinds.RegisterInteger → P kinds.NumberedGlobal → P kinds.NumberedDefinition → P kinds.LifetimeMarker → P kinds.Str → ((h : TokenKind) → (contains TELLING (number h) ≡ true → ⊥) → P h) → (h : TokenKind) → P h
by_telling P type target integer global definition marker string other kinds.RefusedType = type
by_telling P type target integer global definition marker string other kinds.Target = target
by_telling P type target integer global definition marker string other kinds.RegisterInteger = integer
by_telling P type target integer global definition marker string other kinds.NumberedGlobal = global
by_telling P type target integer global definition marker string other kinds.NumberedDefinition = definition
by_telling P type target integer global definition marker string other kinds.LifetimeMarker = marker
by_telling P type target integer global definition marker string other kinds.Str = string
by_telling P type target integer global definition marker string other h = other h differ

module _ {A : Type 0} (place : Place) (wide : Form Tok A) (meaning : Tok → Result A TokenFault) where
  bound_says : (h : TokenKind) (k : TokenFault) → IsBound k → SaysAt place wide meaning h k
  bound_says h Number b = tt
  bound_says h Limit b = tt
  bound_says h Syntax b = absurd b
  bound_says h Profile b = absurd b

  -- of no other class anything is said
  pub elsewhere_at : (h : TokenKind) (k : TokenFault) → (contains TELLING (number h) ≡ true → ⊥) → SaysAt place wide meaning h k
  elsewhere_at h Number n = tt
  elsewhere_at h Limit n = tt
  elsewhere_at kinds.RefusedType k n = absurd (n refl)
  elsewhere_at kinds.Target k n = absurd (n refl)
  elsewhere_at kinds.RegisterInteger k n = absurd (n refl)
  elsewhere_at kinds.NumberedGlobal k n = absurd (n refl)
  elsewhere_at kinds.NumberedDefinition k n = absurd (n refl)
  elsewhere_at kinds.LifetimeMarker k n = absurd (n refl)
  elsewhere_at kinds.Str k n = absurd (n refl)
  elsewhere_at kinds.Number Syntax n = λ q. absurd (differ q)
  elsewhere_at kinds.Number Profile n = λ q. absurd (differ q)
  elsewhere_at h Syntax n = tt
  elsewhere_at h Profile n = tt

  -- a meaning that refuses what isn't of these classes by its class, and what is for its range alone
  module _ (wanted : List ℕ) (refuse : ℕ → TokenFault) (unbound : (n : ℕ) → IsBound (refuse n) → ⊥) (outside : (t : Tok) → among tokens wanted t ≡ false → meaning t ≡ Err (refuse (number t.kind))) (inside : (t : Tok) → among tokens wanted t ≡ true → (k : TokenFault) → meaning t ≡ Err k → IsBound k) where
    same_kind : (k l : TokenFault) → (m : Result A TokenFault) → m ≡ Err k → m ≡ Err l → k ≡ l
    same_kind k l m d e = cc

    pub says_at : ((h : TokenKind) → contains wanted (number h) ≡ false → SaysAt place wide meaning h (refuse (number h))) → (t : Tok) (k : TokenFault) → meaning t ≡ Err k → SaysAt place wide meaning t.kind k
    says_at each t k d = by_test (among tokens wanted t) refl
      where
        by_test : (b : Bool) → among tokens wanted t ≡ b → SaysAt place wide meaning t.kind k
        by_test true p = bound_says t.kind k (inside t p k d)
        by_test false p = subst (λ (x : TokenFault). SaysAt place wide meaning t.kind x) (same_kind (refuse (number t.kind)) k (meaning t) (outside t p) d) (each t.kind p)

module _ {A : Type 0} (wide : Form Tok A) (meaning : Tok → Result A TokenFault) where
  pub elsewhere : (h : TokenKind) (k : TokenFault) → (contains TELLING (number h) ≡ true → ⊥) → Says wide meaning h k
  elsewhere = elsewhere_at nowhere wide meaning

  module _ (wanted : List ℕ) (refuse : ℕ → TokenFault) (unbound : (n : ℕ) → IsBound (refuse n) → ⊥) (outside : (t : Tok) → among tokens wanted t ≡ false → meaning t ≡ Err (refuse (number t.kind))) (inside : (t : Tok) → among tokens wanted t ≡ true → (k : TokenFault) → meaning t ≡ Err k → IsBound k) where
    stuck_outside : (u : Tok) → among tokens wanted u ≡ false → (k : TokenFault) × (IsBound k → ⊥) × (meaning u ≡ Err k)
    stuck_outside u e = (refuse (number u.kind), unbound (number u.kind), outside u e)

    pub no_word : wordless wanted ≡ true → (w : Tok) → among tokens WORD w ≡ true → (k : TokenFault) × (IsBound k → ⊥) × (meaning w ≡ Err k)
    no_word p w i = stuck_outside w (apart (OPEN_ANGLE ++ WORD) wanted p (number w.kind) (within_of WORD (OPEN_ANGLE ++ WORD) refl (number w.kind) i))

    pub none_taken : (h : TokenKind) → plain_at wanted h ≡ true → contains wanted (number h) ≡ false → (u : Tok) → among tokens (stands_for false h) u ≡ true → (k : TokenFault) × (IsBound k → ⊥) × (meaning u ≡ Err k)
    none_taken h p n u i = stuck_outside u (apart (stands_for false h) wanted (left_false (contains wanted (number h)) (disjoint (stands_for false h) wanted) p n) (number u.kind) i)

    pub says_by : ((h : TokenKind) → contains wanted (number h) ≡ false → Says wide meaning h (refuse (number h))) → (t : Tok) (k : TokenFault) → meaning t ≡ Err k → Says wide meaning t.kind k
    says_by = says_at nowhere wide meaning wanted refuse unbound outside inside

-- `<` isn't taken
pub refuses_angle : {A : Type 0} (meaning : Tok → Result A TokenFault) (wanted : List ℕ) (refuse : ℕ → TokenFault) → ((t : Tok) → among tokens wanted t ≡ false → meaning t ≡ Err (refuse (number t.kind))) → disjoint OPEN_ANGLE wanted ≡ true → (t : Tok) (a : A) → among tokens OPEN_ANGLE t ≡ true → meaning t ≡ Ok a → ⊥
refuses_angle {A} meaning wanted refuse outside d t a i e = taken_refused (refuse (number t.kind)) a (sym (outside t (apart OPEN_ANGLE wanted d (number t.kind) i)) ∙ e)
  where
    taken_refused : (k : TokenFault) (a : A) → Err k ≡ Ok a → ⊥
    taken_refused k a e = cc

pub plain_angle : (wanted : List ℕ) → plain wanted ≡ true → disjoint OPEN_ANGLE wanted ≡ true
plain_angle wanted p = (and_parts (disjoint OPEN_ANGLE wanted) (plain_types wanted) (and_parts (plain_names wanted) (plain_globals wanted) p).0).0

wordless_angle : (wanted : List ℕ) → wordless wanted ≡ true → disjoint OPEN_ANGLE wanted ≡ true
wordless_angle wanted p = ap (λ (b : Bool). b && true) (and_parts _ _ p).0

-- ---- where nothing of that may stand

pub not_bound : (n : ℕ) → IsBound (refusal n) → ⊥
not_bound n b = bound_is (refusal n) b (not_number n) (not_limit n)

type_not_bound : (n : ℕ) → IsBound (type_refusal n) → ⊥
type_not_bound n b = bound_is (type_refusal n) b (type_not_number n) (type_not_limit n)

memory_not_bound : (n : ℕ) → IsBound (memory_refusal n) → ⊥
memory_not_bound n b = bound_is (memory_refusal n) b (memory_not_number n) (memory_not_limit n)

name_not_bound : (n : ℕ) → IsBound (name_refusal n) → ⊥
name_not_bound n b = bound_is (name_refusal n) b (name_not_number n) (name_not_limit n)

module _ {A : Type 0} (wide : Form Tok A) (meaning : Tok → Result A TokenFault) (wanted : List ℕ) (inside : (t : Tok) → among tokens wanted t ≡ true → (k : TokenFault) → meaning t ≡ Err k → IsBound k) where
  abbrev i8 : Tok
  i8 = word kinds.MemoryInteger (codes "i8")

  module _ (outside : (t : Tok) → among tokens wanted t ≡ false → meaning t ≡ Err (refusal (number t.kind))) (p : plain_otherwise wanted ≡ true) where
    names : plain_types wanted ≡ true
    names = (and_parts (plain_types wanted) (plain_globals wanted) p).0

    two : plain_at wanted kinds.Target && plain_at wanted kinds.RegisterInteger ≡ true
    two = (and_parts (plain_at wanted kinds.RefusedType) (plain_at wanted kinds.Target && plain_at wanted kinds.RegisterInteger) names).1

    globals : (plain_at wanted kinds.NumberedGlobal ≡ true) × (plain_at wanted kinds.NumberedDefinition ≡ true)
    globals = and_parts (plain_at wanted kinds.NumberedGlobal) (plain_at wanted kinds.NumberedDefinition) (and_parts (plain_types wanted) (plain_globals wanted) p).1

    plainly : (h : TokenKind) → contains wanted (number h) ≡ false → Says wide meaning h (refusal (number h))
    plainly = by_telling (λ h. contains wanted (number h) ≡ false → Says wide meaning h (refusal (number h)))
        (λ n. none_taken wide meaning wanted refusal not_bound outside inside kinds.RefusedType (and_parts (plain_at wanted kinds.RefusedType) (plain_at wanted kinds.Target && plain_at wanted kinds.RegisterInteger) names).0 n)
        (λ n. inl (λ u i. none_taken wide meaning wanted refusal not_bound outside inside kinds.Target (and_parts (plain_at wanted kinds.Target) (plain_at wanted kinds.RegisterInteger) two).0 n u (a_type u i)))
        (λ n. (i8, refl, i8_real, none_taken wide meaning wanted refusal not_bound outside inside kinds.RegisterInteger (and_parts (plain_at wanted kinds.Target) (plain_at wanted kinds.RegisterInteger) two).1 n i8 refl))
        (λ n. none_taken wide meaning wanted refusal not_bound outside inside kinds.NumberedGlobal globals.0 n)
        (λ n. none_taken wide meaning wanted refusal not_bound outside inside kinds.NumberedDefinition globals.1 n)
        (λ _. tt)
        (λ n. none_taken wide meaning wanted refusal not_bound outside inside kinds.Str (plain_string wanted) n)
        (λ h t _. elsewhere wide meaning h (refusal (number h)) t)

    pub says_plainly : (t : Tok) (k : TokenFault) → meaning t ≡ Err k → Says wide meaning t.kind k
    says_plainly = says_by wide meaning wanted refusal not_bound outside inside plainly

  -- ---- where a type may stand

  module _ (outside : (t : Tok) → among tokens wanted t ≡ false → meaning t ≡ Err (type_refusal (number t.kind))) (p : plain_numbers wanted ≡ true) (q : wordless wanted ≡ true) (type : (u : Tok) × (among tokens REG u ≡ true) × Goes wide [] u) where
    numbers : (plain_at wanted kinds.NumberedGlobal ≡ true) × (plain_at wanted kinds.NumberedDefinition ≡ true)
    numbers = and_parts (plain_at wanted kinds.NumberedGlobal) (plain_at wanted kinds.NumberedDefinition) (and_parts (plain_at wanted kinds.RegisterInteger) (plain_at wanted kinds.NumberedGlobal && plain_at wanted kinds.NumberedDefinition) p).1

    typed : (h : TokenKind) → contains wanted (number h) ≡ false → Says wide meaning h (type_refusal (number h))
    typed = by_telling (λ h. contains wanted (number h) ≡ false → Says wide meaning h (type_refusal (number h)))
        (λ _. type)
        (λ _. (type, no_word wide meaning wanted type_refusal type_not_bound outside inside q))
        (λ n. (i8, refl, i8_real, none_taken wide meaning wanted type_refusal type_not_bound outside inside kinds.RegisterInteger (and_parts (plain_at wanted kinds.RegisterInteger) (plain_at wanted kinds.NumberedGlobal && plain_at wanted kinds.NumberedDefinition) p).0 n i8 refl))
        (λ n. none_taken wide meaning wanted type_refusal type_not_bound outside inside kinds.NumberedGlobal numbers.0 n)
        (λ n. none_taken wide meaning wanted type_refusal type_not_bound outside inside kinds.NumberedDefinition numbers.1 n)
        (λ _. tt)
        (λ n. none_taken wide meaning wanted type_refusal type_not_bound outside inside kinds.Str (plain_string wanted) n)
        (λ h t _. elsewhere wide meaning h (type_refusal (number h)) t)

    pub says_typed : (t : Tok) (k : TokenFault) → meaning t ≡ Err k → Says wide meaning t.kind k
    says_typed = says_by wide meaning wanted type_refusal type_not_bound outside inside typed

  -- ---- where a shape may stand

  module _ (outside : (t : Tok) → among tokens wanted t ≡ false → meaning t ≡ Err (memory_refusal (number t.kind))) (p : plain_globals wanted ≡ true) (q : wordless wanted ≡ true) (type : (u : Tok) × (among tokens REG u ≡ true) × Goes wide [] u) (each : (u : Tok) → among tokens MEMORY u ≡ true → IsReal u → Goes wide [] u) where
    both : (plain_at wanted kinds.NumberedGlobal ≡ true) × (plain_at wanted kinds.NumberedDefinition ≡ true)
    both = and_parts (plain_at wanted kinds.NumberedGlobal) (plain_at wanted kinds.NumberedDefinition) p

    shaped : (h : TokenKind) → contains wanted (number h) ≡ false → Says wide meaning h (memory_refusal (number h))
    shaped = by_telling (λ h. contains wanted (number h) ≡ false → Says wide meaning h (memory_refusal (number h)))
        (λ _. type)
        (λ _. (type, no_word wide meaning wanted memory_refusal memory_not_bound outside inside q))
        (λ _. each)
        (λ n. none_taken wide meaning wanted memory_refusal memory_not_bound outside inside kinds.NumberedGlobal both.0 n)
        (λ n. none_taken wide meaning wanted memory_refusal memory_not_bound outside inside kinds.NumberedDefinition both.1 n)
        (λ _. tt)
        (λ n. none_taken wide meaning wanted memory_refusal memory_not_bound outside inside kinds.Str (plain_string wanted) n)
        (λ h t _. elsewhere wide meaning h (memory_refusal (number h)) t)

    pub says_shaped : (t : Tok) (k : TokenFault) → meaning t ≡ Err k → Says wide meaning t.kind k
    says_shaped = says_by wide meaning wanted memory_refusal memory_not_bound outside inside shaped

  -- ---- where a name may stand

  module _ (outside : (t : Tok) → among tokens wanted t ≡ false → meaning t ≡ Err (name_refusal (number t.kind))) (p : plain_names wanted ≡ true) (name : (u : Tok) × (among tokens (number kinds.Global ∷ []) u ≡ true) × Goes wide [] u) where
    typeless : plain_types wanted ≡ true
    typeless = (and_parts (disjoint OPEN_ANGLE wanted) (plain_types wanted) p).1

    later : plain_at wanted kinds.Target && plain_at wanted kinds.RegisterInteger ≡ true
    later = (and_parts (plain_at wanted kinds.RefusedType) (plain_at wanted kinds.Target && plain_at wanted kinds.RegisterInteger) typeless).1

    named : (h : TokenKind) → contains wanted (number h) ≡ false → Says wide meaning h (name_refusal (number h))
    named = by_telling (λ h. contains wanted (number h) ≡ false → Says wide meaning h (name_refusal (number h)))
        (λ n. none_taken wide meaning wanted name_refusal name_not_bound outside inside kinds.RefusedType (and_parts (plain_at wanted kinds.RefusedType) (plain_at wanted kinds.Target && plain_at wanted kinds.RegisterInteger) typeless).0 n)
        (λ n. inl (λ u i. none_taken wide meaning wanted name_refusal name_not_bound outside inside kinds.Target (and_parts (plain_at wanted kinds.Target) (plain_at wanted kinds.RegisterInteger) later).0 n u (a_type u i)))
        (λ n. (i8, refl, i8_real, none_taken wide meaning wanted name_refusal name_not_bound outside inside kinds.RegisterInteger (and_parts (plain_at wanted kinds.Target) (plain_at wanted kinds.RegisterInteger) later).1 n i8 refl))
        (λ _. name)
        (λ _. name)
        (λ _. tt)
        (λ n. none_taken wide meaning wanted name_refusal name_not_bound outside inside kinds.Str (plain_string wanted) n)
        (λ h t _. elsewhere wide meaning h (name_refusal (number h)) t)

    pub says_named : (t : Tok) (k : TokenFault) → meaning t ≡ Err k → Says wide meaning t.kind k
    says_named = says_by wide meaning wanted name_refusal name_not_bound outside inside named

-- ---- readers of tokens

-- of a rule for one token
pub of_token : {A : Type 0} {wide : Form Tok A} {xs ms : List ℕ} {e : Bool} (meaning : Tok → Result A TokenFault) → Rule tokens (form.token meaning) wide (token_at meaning) xs ms e → ((t : Tok) (a : A) → among tokens OPEN_ANGLE t ≡ true → meaning t ≡ Ok a → ⊥) → ((t : Tok) (k : TokenFault) → meaning t ≡ Err k → Says wide meaning t.kind k) → Exchanges wide (token_at meaning)
of_token {wide = wide} meaning rule refuses says = single wide meaning refuses (λ t a e. rule.law.contains (t ∷ []) a e) (let z = rule.law.some in (z.0, z.1, rule.law.contains z.0 z.1 z.2, z.3)) says

abbrev pub refuse : {A : Type 0} → TokenFault → Result A TokenFault
refuse k = Err k

abbrev fine : Unit {0} → Result (Unit {0}) TokenFault
fine u = Ok u

pub class_inside : (refuse' : ℕ → TokenFault) (wanted : ℕ) (t : Tok) → among tokens (wanted ∷ []) t ≡ true → (k : TokenFault) → is_class tokens refuse' wanted t ≡ Err k → IsBound k
unfolding is_class
class_inside refuse' wanted t p k d = by_test (nat_eq (number t.kind) wanted) p d
  where
    by_test : (b : Bool) → b || false ≡ true → cond b (fine tt) (refuse (refuse' (number t.kind))) ≡ refuse k → IsBound k
    by_test true p d = absurd cc
    by_test false p d = absurd cc

pub class_outside : (refuse' : ℕ → TokenFault) (wanted : ℕ) (t : Tok) → among tokens (wanted ∷ []) t ≡ false → is_class tokens refuse' wanted t ≡ Err (refuse' (number t.kind))
unfolding is_class
class_outside refuse' wanted t p = by_test (nat_eq (number t.kind) wanted) p
  where
    by_test : (b : Bool) → b || false ≡ false → cond b (fine tt) (refuse (refuse' (number t.kind))) ≡ refuse (refuse' (number t.kind))
    by_test true p = absurd cc
    by_test false p = refl

pub one_inside : {A : Type 0} (refuse' : ℕ → TokenFault) (wanted : List ℕ) (value : Tok → A) (t : Tok) → among tokens wanted t ≡ true → (k : TokenFault) → is_among tokens refuse' wanted value t ≡ Err k → IsBound k
unfolding is_among
one_inside {A} refuse' wanted value t p k d = by_test (among tokens wanted t) p d
  where
    by_test : (b : Bool) → b ≡ true → cond b (Ok (value t)) (refuse (refuse' (number t.kind))) ≡ refuse k → IsBound k
    by_test true p d = absurd cc
    by_test false p d = absurd cc

pub one_outside : {A : Type 0} (refuse' : ℕ → TokenFault) (wanted : List ℕ) (value : Tok → A) (t : Tok) → among tokens wanted t ≡ false → is_among tokens refuse' wanted value t ≡ Err (refuse' (number t.kind))
unfolding is_among
one_outside refuse' wanted value t p = ap (λ (b : Bool). cond b (Ok (value t)) (Err (refuse' (number t.kind)))) p

pub valued_inside : {A : Type 0} (refuse' : ℕ → TokenFault) (wanted : List ℕ) (value : Tok → Option A) (t : Tok) → among tokens wanted t ≡ true → (k : TokenFault) → is_valued tokens refuse' wanted value t ≡ Err k → IsBound k
unfolding is_valued
valued_inside {A} refuse' wanted value t p k d = by_test (among tokens wanted t) (value t) p d
  where
    number_is : (k : TokenFault) → refuse {A = A} Number ≡ refuse k → Number ≡ k
    number_is k e = cc

    by_test : (b : Bool) (o : Option A) → b ≡ true → cond b (in_range o) (refuse (refuse' (number t.kind))) ≡ refuse k → IsBound k
    by_test true None p d = subst IsBound (number_is k d) tt
    by_test true (Some a) p d = absurd cc
    by_test false o p d = absurd cc

pub valued_outside : {A : Type 0} (refuse' : ℕ → TokenFault) (wanted : List ℕ) (value : Tok → Option A) (t : Tok) → among tokens wanted t ≡ false → is_valued tokens refuse' wanted value t ≡ Err (refuse' (number t.kind))
unfolding is_valued
valued_outside refuse' wanted value t p = ap (λ (b : Bool). cond b (in_range (value t)) (Err (refuse' (number t.kind)))) p

-- a word, a mark or a name that stands for no type and no global
pub plain_class : {xs ms : List ℕ} {e : Bool} (wanted : TokenKind) → Rule tokens (the wanted) (the wanted) (the_at wanted) xs ms e → plain (number wanted ∷ []) ≡ true → Exchanges (the wanted) (the_at wanted)
plain_class wanted rule p = of_token (is_class tokens refusal (number wanted)) rule (refuses_angle (is_class tokens refusal (number wanted)) (number wanted ∷ []) refusal (class_outside refusal (number wanted)) (plain_angle (number wanted ∷ []) p)) (says_plainly (the wanted) (is_class tokens refusal (number wanted)) (number wanted ∷ []) (class_inside refusal (number wanted)) (class_outside refusal (number wanted)) (otherwise_of (number wanted ∷ []) p))

-- or one of several classes
pub plain_one : {A : Type 0} {wide : Form Tok A} {xs ms : List ℕ} {e : Bool} (wanted : List ℕ) (value : Tok → A) → Rule tokens (one_of wanted value) wide (one_of_at wanted value) xs ms e → plain wanted ≡ true → Exchanges wide (one_of_at wanted value)
plain_one {wide = wide} wanted value rule p = of_token (is_among tokens refusal wanted value) rule (refuses_angle (is_among tokens refusal wanted value) wanted refusal (one_outside refusal wanted value) (plain_angle wanted p)) (says_plainly wide (is_among tokens refusal wanted value) wanted (one_inside refusal wanted value) (one_outside refusal wanted value) (otherwise_of wanted p))

pub plain_valued : {A : Type 0} {wide : Form Tok A} {xs ms : List ℕ} {e : Bool} (wanted : List ℕ) (value : Tok → Option A) → Rule tokens (form.token (is_valued tokens refusal wanted value)) wide (token_at (is_valued tokens refusal wanted value)) xs ms e → plain wanted ≡ true → Exchanges wide (token_at (is_valued tokens refusal wanted value))
plain_valued {wide = wide} wanted value rule p = of_token (is_valued tokens refusal wanted value) rule (refuses_angle (is_valued tokens refusal wanted value) wanted refusal (valued_outside refusal wanted value) (plain_angle wanted p)) (says_plainly wide (is_valued tokens refusal wanted value) wanted (valued_inside refusal wanted value) (valued_outside refusal wanted value) (otherwise_of wanted p))

-- a type of a register
pub type_class : {xs ms : List ℕ} {e : Bool} (wanted : ℕ) → Rule tokens (form.token (is_class tokens type_refusal wanted)) (form.token (is_class tokens type_refusal wanted)) (token_at (is_class tokens type_refusal wanted)) xs ms e → plain_numbers (wanted ∷ []) ≡ true → wordless (wanted ∷ []) ≡ true
    → (u : Tok) → among tokens REG u ≡ true → IsReal u → is_class tokens type_refusal wanted u ≡ Ok tt → Exchanges (form.token (is_class tokens type_refusal wanted)) (token_at (is_class tokens type_refusal wanted))
type_class wanted rule p q u i r e = of_token (is_class tokens type_refusal wanted) rule (refuses_angle (is_class tokens type_refusal wanted) (wanted ∷ []) type_refusal (class_outside type_refusal wanted) (wordless_angle (wanted ∷ []) q)) (says_typed (form.token (is_class tokens type_refusal wanted)) (is_class tokens type_refusal wanted) (wanted ∷ []) (class_inside type_refusal wanted) (class_outside type_refusal wanted) p q (u, i, ([], tt, e, (r, tt))))

pub type_one : {A : Type 0} {xs ms : List ℕ} {e : Bool} (wanted : List ℕ) (value : Tok → A) → Rule tokens (form.token (is_among tokens type_refusal wanted value)) (form.token (is_among tokens type_refusal wanted value)) (token_at (is_among tokens type_refusal wanted value)) xs ms e → plain_numbers wanted ≡ true → wordless wanted ≡ true
    → (u : Tok) → among tokens REG u ≡ true → IsReal u → among tokens wanted u ≡ true → Exchanges (form.token (is_among tokens type_refusal wanted value)) (token_at (is_among tokens type_refusal wanted value))
unfolding is_among
type_one wanted value rule p q u i r e = of_token (is_among tokens type_refusal wanted value) rule (refuses_angle (is_among tokens type_refusal wanted value) wanted type_refusal (one_outside type_refusal wanted value) (wordless_angle wanted q)) (says_typed (form.token (is_among tokens type_refusal wanted value)) (is_among tokens type_refusal wanted value) wanted (one_inside type_refusal wanted value) (one_outside type_refusal wanted value) p q (u, i, ([], value u, ap (λ (b : Bool). cond b (Ok (value u)) (Err (type_refusal (number u.kind)))) e, (r, tt))))

pub memory_one : {A : Type 0} {xs ms : List ℕ} {e : Bool} (wanted : List ℕ) (value : Tok → A) → Rule tokens (form.token (is_among tokens memory_refusal wanted value)) (form.token (is_among tokens memory_refusal wanted value)) (token_at (is_among tokens memory_refusal wanted value)) xs ms e → plain_globals wanted ≡ true → wordless wanted ≡ true
    → (u : Tok) → among tokens REG u ≡ true → IsReal u → among tokens wanted u ≡ true → ((v : Tok) → among tokens MEMORY v ≡ true → among tokens wanted v ≡ true) → Exchanges (form.token (is_among tokens memory_refusal wanted value)) (token_at (is_among tokens memory_refusal wanted value))
unfolding is_among
memory_one {A} wanted value rule p q' u i r e each = of_token (is_among tokens memory_refusal wanted value) rule (refuses_angle (is_among tokens memory_refusal wanted value) wanted memory_refusal (one_outside memory_refusal wanted value) (wordless_angle wanted q')) (says_shaped (form.token (is_among tokens memory_refusal wanted value)) (is_among tokens memory_refusal wanted value) wanted (one_inside memory_refusal wanted value) (one_outside memory_refusal wanted value) p q' (u, i, goes u r e) (λ v j q. goes v q (each v j)))
  where
    goes : (v : Tok) → IsReal v → among tokens wanted v ≡ true → Goes (form.token (is_among tokens memory_refusal wanted value)) [] v
    goes v q j = ([], value v, ap (λ (b : Bool). cond b (Ok (value v)) (Err (memory_refusal (number v.kind)))) j, (q, tt))

-- a type of a register that passes a test: one does, and one that memory holds doesn't
module _ {A : Type 0} (wanted : List ℕ) (passes : Tok → Bool) (value : Tok → A) where
  abbrev tested : Tok → Result A TokenFault
  tested = is_exact tokens type_refusal wanted passes value

  abbrev APART : List ℕ
  APART = number kinds.Str ∷ number kinds.OpenAngle ∷ number kinds.Word ∷ number kinds.RefusedType ∷ number kinds.Target ∷ number kinds.Global ∷ number kinds.NumberedGlobal ∷ number kinds.NumberedDefinition ∷ []

  both_true : (b c : Bool) (a : A) (k : TokenFault) → b ≡ true → c ≡ true → cond (b && c) (Ok a) (Err k) ≡ Ok a
  both_true true true a k p q = refl
  both_true true false a k p q = absurd cc
  both_true false c a k p q = absurd cc

  right_no : (b c : Bool) (a : A) (k : TokenFault) → c ≡ false → cond (b && c) (Ok a) (refuse k) ≡ refuse k
  right_no true true a k q = absurd cc
  right_no true false a k q = refl
  right_no false c a k q = refl

  left_no : (b c : Bool) (a : A) (k : TokenFault) → b ≡ false → cond (b && c) (Ok a) (refuse k) ≡ refuse k
  left_no true c a k q = absurd cc
  left_no false c a k q = refl

  err_is : (k l : TokenFault) → refuse {A = A} l ≡ refuse k → l ≡ k
  err_is k l e = cc

  fault_is : (b : Bool) (a : A) (k l : TokenFault) → cond b (Ok a) (refuse l) ≡ refuse k → l ≡ k
  fault_is true a k l e = absurd cc
  fault_is false a k l e = err_is k l e

  module _ (none : disjoint APART wanted ≡ true) (u : Tok) (i : among tokens REG u ≡ true) (j : among tokens wanted u ≡ true) (q : passes u ≡ true) (r : IsReal u) (v : Tok) (k : among tokens MEMORY v ≡ true) (n : passes v ≡ false) (r' : IsReal v) where
    passing : (u : Tok) × (among tokens REG u ≡ true) × Goes (form.token tested) [] u
    unfolding is_exact
    passing = (u, i, ([], value u, both_true (among tokens wanted u) (passes u) (value u) (type_refusal (number u.kind)) j q, (r, tt)))

    failing : (u : Tok) × (among tokens MEMORY u ≡ true) × IsReal u × ((k : TokenFault) × (IsBound k → ⊥) × (tested u ≡ Err k))
    unfolding is_exact
    failing = (v, k, r', (type_refusal (number v.kind), type_not_bound (number v.kind), right_no (among tokens wanted v) (passes v) (value v) (type_refusal (number v.kind)) n))

    no_global : (n : ℕ) → contains (number kinds.Global ∷ []) n ≡ true → contains wanted n ≡ false
    no_global n p = apart APART wanted none n (within_of (number kinds.Global ∷ []) APART refl n p)

    stuck_global : (g : Tok) → among tokens (number kinds.Global ∷ []) g ≡ true → (k : TokenFault) × (IsBound k → ⊥) × (tested g ≡ Err k)
    unfolding is_exact
    stuck_global g p = (type_refusal (number g.kind), type_not_bound (number g.kind), left_no (among tokens wanted g) (passes g) (value g) (type_refusal (number g.kind)) (no_global (number g.kind) p))

    stuck_word : (w : Tok) → among tokens WORD w ≡ true → (k : TokenFault) × (IsBound k → ⊥) × (tested w ≡ Err k)
    unfolding is_exact
    stuck_word w i = (type_refusal (number w.kind), type_not_bound (number w.kind), left_no (among tokens wanted w) (passes w) (value w) (type_refusal (number w.kind)) (apart APART wanted none (number w.kind) (within_of WORD APART refl (number w.kind) i)))

    stuck_string : (u : Tok) → among tokens STRING u ≡ true → (k : TokenFault) × (IsBound k → ⊥) × (tested u ≡ Err k)
    unfolding is_exact
    stuck_string u i = (type_refusal (number u.kind), type_not_bound (number u.kind), left_no (among tokens wanted u) (passes u) (value u) (type_refusal (number u.kind)) (apart APART wanted none (number u.kind) (within_of STRING APART refl (number u.kind) i)))

    exact_class : (h : TokenKind) → Says (form.token tested) tested h (type_refusal (number h))
    exact_class = by_telling (λ h. Says (form.token tested) tested h (type_refusal (number h)))
        passing
        (passing, stuck_word)
        failing
        (λ g p. stuck_global g p)
        (λ g p. stuck_global g p)
        tt
        (λ u p. stuck_string u p)
        (λ h t. elsewhere (form.token tested) tested h (type_refusal (number h)) t)

    exact_says : (t : Tok) (k : TokenFault) → tested t ≡ Err k → Says (form.token tested) tested t.kind k
    unfolding is_exact
    exact_says t k e = subst (λ (x : TokenFault). Says (form.token tested) tested t.kind x) (fault_is (among tokens wanted t && passes t) (value t) k (type_refusal (number t.kind)) e) (exact_class t.kind)

    tested_no_angle : (t : Tok) (a : A) → among tokens OPEN_ANGLE t ≡ true → tested t ≡ Ok a → ⊥
    unfolding is_exact
    tested_no_angle t a i e = refused (type_refusal (number t.kind)) a (sym (left_no (among tokens wanted t) (passes t) (value t) (type_refusal (number t.kind)) (apart APART wanted none (number t.kind) (within_of OPEN_ANGLE APART refl (number t.kind) i))) ∙ e)
      where
        refused : (k : TokenFault) (a : A) → refuse {A = A} k ≡ Ok a → ⊥
        refused k a e = cc

    pub exact_type : {xs ms : List ℕ} {e : Bool} → Rule tokens (form.token tested) (form.token tested) (token_at tested) xs ms e → Exchanges (form.token tested) (token_at tested)
    exact_type rule = of_token tested rule tested_no_angle exact_says

-- ---- without a rule

-- some text has this token, which means this
pub valued_sample : {A : Type 0} (wanted : List ℕ) (value : Tok → Option A) (t : Tok) (a : A) → is_valued tokens refusal wanted value t ≡ Ok a → IsReal t → plain wanted ≡ true → Exchanges (form.token (is_valued tokens refusal wanted value)) (token_at (is_valued tokens refusal wanted value))
valued_sample wanted value t a e r p = single (form.token (is_valued tokens refusal wanted value)) (is_valued tokens refusal wanted value) (refuses_angle (is_valued tokens refusal wanted value) wanted refusal (valued_outside refusal wanted value) (plain_angle wanted p)) (λ u b d. d) (t ∷ [], a, e, (r, tt)) (says_plainly (form.token (is_valued tokens refusal wanted value)) (is_valued tokens refusal wanted value) wanted (valued_inside refusal wanted value) (valued_outside refusal wanted value) (otherwise_of wanted p))

pub one_sample : {A : Type 0} (wanted : List ℕ) (value : Tok → A) (t : Tok) → among tokens wanted t ≡ true → IsReal t → plain wanted ≡ true → Exchanges (one_of wanted value) (one_of_at wanted value)
unfolding is_among
one_sample wanted value t i r p = single (one_of wanted value) (is_among tokens refusal wanted value) (refuses_angle (is_among tokens refusal wanted value) wanted refusal (one_outside refusal wanted value) (plain_angle wanted p)) (λ u b d. d) (t ∷ [], value t, ap (λ (b : Bool). cond b (Ok (value t)) (Err (refusal (number t.kind)))) i, (r, tt)) (says_plainly (one_of wanted value) (is_among tokens refusal wanted value) wanted (one_inside refusal wanted value) (one_outside refusal wanted value) (otherwise_of wanted p))

-- a word, a mark or a name that may be `<`
pub loose_one : {A : Type 0} (wanted : List ℕ) (value : Tok → A) (t : Tok) → among tokens wanted t ≡ true → IsReal t → plain_otherwise wanted ≡ true → Swaps false true nowhere (one_of wanted value) (one_of_at wanted value)
unfolding is_among
loose_one wanted value t i r p = single_at true nowhere (one_of wanted value) (is_among tokens refusal wanted value) (λ u b j d. refl) (λ u b d. d) (t ∷ [], value t, ap (λ (b : Bool). cond b (Ok (value t)) (Err (refusal (number t.kind)))) i, (r, tt)) (says_plainly (one_of wanted value) (is_among tokens refusal wanted value) wanted (one_inside refusal wanted value) (one_outside refusal wanted value) p)

pub loose_class : {xs ms : List ℕ} {e : Bool} (wanted : TokenKind) → Rule tokens (the wanted) (the wanted) (the_at wanted) xs ms e → plain_otherwise (number wanted ∷ []) ≡ true → Swaps false true nowhere (the wanted) (the_at wanted)
loose_class wanted rule p = single_at true nowhere (the wanted) (is_class tokens refusal (number wanted)) (λ u b j d. refl) (λ u b d. d) (let z = rule.law.some in (z.0, z.1, rule.law.contains z.0 z.1 z.2, z.3)) (says_plainly (the wanted) (is_class tokens refusal (number wanted)) (number wanted ∷ []) (class_inside refusal (number wanted)) (class_outside refusal (number wanted)) p)

-- a meaning that refuses none that is left out in some places only
pub elsewhere_sample : {A : Type 0} (meaning : Tok → Result A TokenFault) → ((t : Tok) (k : TokenFault) → meaning t ≡ Err k → contains TELLING (number t.kind) ≡ true → ⊥) → (t : Tok) (a : A) → meaning t ≡ Ok a → IsReal t → Swaps false true nowhere (form.token meaning) (token_at meaning)
elsewhere_sample meaning never t a e r = single_at true nowhere (form.token meaning) meaning (λ u b i d. refl) (λ u b d. d) (t ∷ [], a, e, (r, tt)) (λ u k d. elsewhere (form.token meaning) meaning u.kind k (never u k d))

-- ---- words, of which `target` is none

-- a plain word goes on
abbrev pub a_word : Tok
a_word = word kinds.Word (codes "a")

pub a_word_real : IsReal a_word
unfolding best_fit rest_fit label_len number_len word_len name_len meta_len dots_len other_len string_len has is_bad is_zero_name kind_of word_kind listed_kind words_1
a_word_real = record { behind = []; some = refl; fits = refl; good = refl; class = refl }

abbrev pub spoken : List ℕ → Bool
spoken wanted = contains wanted (number kinds.Word) && (plain_at wanted kinds.RefusedType && (plain_at wanted kinds.RegisterInteger && plain_globals wanted))

abbrev pub worded : List ℕ → Bool
worded wanted = disjoint OPEN_ANGLE wanted && spoken wanted

module _ {A : Type 0} (wanted : List ℕ) (value : Tok → A) (p : worded wanted ≡ true) where
  abbrev one_word : Tok → Result A TokenFault
  one_word = is_among tokens refusal wanted value

  word_goes : contains wanted (number kinds.Word) ≡ true → Goes (one_of wanted value) [] a_word
  unfolding is_among
  word_goes e = ([], value a_word, ap (λ (b : Bool). cond b (Ok (value a_word)) (Err (refusal (number kinds.Word)))) e, (a_word_real, tt))

  abbrev taken_none : (h : TokenKind) → plain_at wanted h ≡ true → contains wanted (number h) ≡ false → (u : Tok) → among tokens (stands_for false h) u ≡ true → (k : TokenFault) × (IsBound k → ⊥) × (one_word u ≡ Err k)
  taken_none = none_taken (one_of wanted value) one_word wanted refusal not_bound (one_outside refusal wanted value) (one_inside refusal wanted value)

  parts_of : (contains wanted (number kinds.Word) ≡ true) × (plain_at wanted kinds.RefusedType ≡ true) × (plain_at wanted kinds.RegisterInteger ≡ true) × (plain_at wanted kinds.NumberedGlobal ≡ true) × (plain_at wanted kinds.NumberedDefinition ≡ true)
  parts_of =
      let one = and_parts (contains wanted (number kinds.Word)) (plain_at wanted kinds.RefusedType && (plain_at wanted kinds.RegisterInteger && plain_globals wanted)) (and_parts (disjoint OPEN_ANGLE wanted) (spoken wanted) p).1 in
      let two = and_parts (plain_at wanted kinds.RefusedType) (plain_at wanted kinds.RegisterInteger && plain_globals wanted) one.1 in
      let three = and_parts (plain_at wanted kinds.RegisterInteger) (plain_globals wanted) two.1 in
      let four = and_parts (plain_at wanted kinds.NumberedGlobal) (plain_at wanted kinds.NumberedDefinition) three.1 in
      (one.0, two.0, three.0, four.0, four.1)

  word_class : (h : TokenKind) → contains wanted (number h) ≡ false → Says (one_of wanted value) one_word h (refusal (number h))
  word_class = by_telling (λ h. contains wanted (number h) ≡ false → Says (one_of wanted value) one_word h (refusal (number h)))
      (λ n. taken_none kinds.RefusedType parts_of.1 n)
      (λ _. inr (a_word, refl, word_goes parts_of.0))
      (λ n. (word kinds.MemoryInteger (codes "i8"), refl, i8_real, taken_none kinds.RegisterInteger parts_of.2 n (word kinds.MemoryInteger (codes "i8")) refl))
      (λ n. taken_none kinds.NumberedGlobal parts_of.3 n)
      (λ n. taken_none kinds.NumberedDefinition parts_of.4 n)
      (λ _. tt)
      (λ n. taken_none kinds.Str (plain_string wanted) n)
      (λ h t _. elsewhere (one_of wanted value) one_word h (refusal (number h)) t)

  pub word_one : Exchanges (one_of wanted value) (one_of_at wanted value)
  unfolding is_among
  word_one = single (one_of wanted value) one_word (refuses_angle one_word wanted refusal (one_outside refusal wanted value) (and_parts (disjoint OPEN_ANGLE wanted) (spoken wanted) p).0) (λ u b d. d) (a_word ∷ [], value a_word, ap (λ (b : Bool). cond b (Ok (value a_word)) (Err (refusal (number kinds.Word)))) parts_of.0, (a_word_real, tt)) (says_by (one_of wanted value) one_word wanted refusal not_bound (one_outside refusal wanted value) (one_inside refusal wanted value) word_class)

-- ---- behind `<`

angle_not_bound : (n : ℕ) → IsBound (angle_refusal n) → ⊥
angle_not_bound n b = by_test (nat_eq n (number kinds.Number)) b
  where
    by_test : (c : Bool) → IsBound (cond c Profile (refusal n)) → ⊥
    by_test true b = b
    by_test false b = not_bound n b

module _ (wanted : ℕ) (p : plain (wanted ∷ []) ≡ true) where
  abbrev behind_angle : Tok → Result (Unit {0}) TokenFault
  behind_angle = is_class tokens angle_refusal wanted

  abbrev angle_taken : (h : TokenKind) → plain_at (wanted ∷ []) h ≡ true → contains (wanted ∷ []) (number h) ≡ false → (u : Tok) → among tokens (stands_for false h) u ≡ true → (k : TokenFault) × (IsBound k → ⊥) × (behind_angle u ≡ Err k)
  angle_taken = none_taken (form.token behind_angle) behind_angle (wanted ∷ []) angle_refusal angle_not_bound (class_outside angle_refusal wanted) (class_inside angle_refusal wanted)

  angle_parts : (plain_at (wanted ∷ []) kinds.RefusedType ≡ true) × (plain_at (wanted ∷ []) kinds.Target ≡ true) × (plain_at (wanted ∷ []) kinds.RegisterInteger ≡ true) × (plain_at (wanted ∷ []) kinds.NumberedGlobal ≡ true) × (plain_at (wanted ∷ []) kinds.NumberedDefinition ≡ true)
  angle_parts =
      let one = and_parts (plain_names (wanted ∷ [])) (plain_globals (wanted ∷ [])) p in
      let types = and_parts (disjoint OPEN_ANGLE (wanted ∷ [])) (plain_types (wanted ∷ [])) one.0 in
      let two = and_parts (plain_at (wanted ∷ []) kinds.RefusedType) (plain_at (wanted ∷ []) kinds.Target && plain_at (wanted ∷ []) kinds.RegisterInteger) types.1 in
      let three = and_parts (plain_at (wanted ∷ []) kinds.Target) (plain_at (wanted ∷ []) kinds.RegisterInteger) two.1 in
      let four = and_parts (plain_at (wanted ∷ []) kinds.NumberedGlobal) (plain_at (wanted ∷ []) kinds.NumberedDefinition) one.1 in
      (two.0, three.0, three.1, four.0, four.1)

  angle_class : (h : TokenKind) → contains (wanted ∷ []) (number h) ≡ false → Says (form.token behind_angle) behind_angle h (angle_refusal (number h))
  angle_class = by_telling (λ h. contains (wanted ∷ []) (number h) ≡ false → Says (form.token behind_angle) behind_angle h (angle_refusal (number h)))
      (λ n. angle_taken kinds.RefusedType angle_parts.0 n)
      (λ n. inl (λ u i. angle_taken kinds.Target angle_parts.1 n u (a_type u i)))
      (λ n. (word kinds.MemoryInteger (codes "i8"), refl, i8_real, angle_taken kinds.RegisterInteger angle_parts.2 n (word kinds.MemoryInteger (codes "i8")) refl))
      (λ n. angle_taken kinds.NumberedGlobal angle_parts.3 n)
      (λ n. angle_taken kinds.NumberedDefinition angle_parts.4 n)
      (λ _. tt)
      (λ n. angle_taken kinds.Str (plain_string (wanted ∷ [])) n)
      (λ h t _. elsewhere (form.token behind_angle) behind_angle h (angle_refusal (number h)) t)

  pub angle_says : (t : Tok) (k : TokenFault) → behind_angle t ≡ Err k → Says (form.token behind_angle) behind_angle t.kind k
  angle_says = says_by (form.token behind_angle) behind_angle (wanted ∷ []) angle_refusal angle_not_bound (class_outside angle_refusal wanted) (class_inside angle_refusal wanted) angle_class

-- ---- names

pub name_valued : {xs ms : List ℕ} {e : Bool} (wanted : List ℕ) (value : Tok → Option Tok) → Rule tokens (form.token (is_valued tokens name_refusal wanted value)) (form.token (is_valued tokens name_refusal wanted value)) (token_at (is_valued tokens name_refusal wanted value)) xs ms e → plain_names wanted ≡ true
    → (u a : Tok) → among tokens (number kinds.Global ∷ []) u ≡ true → among tokens wanted u ≡ true → value u ≡ Some a → IsReal u → Exchanges (form.token (is_valued tokens name_refusal wanted value)) (token_at (is_valued tokens name_refusal wanted value))
unfolding is_valued
name_valued wanted value rule p u a i j v r = of_token (is_valued tokens name_refusal wanted value) rule (refuses_angle (is_valued tokens name_refusal wanted value) wanted name_refusal (valued_outside name_refusal wanted value) (and_parts (disjoint OPEN_ANGLE wanted) (plain_types wanted) p).0) (says_named (form.token (is_valued tokens name_refusal wanted value)) (is_valued tokens name_refusal wanted value) wanted (valued_inside name_refusal wanted value) (valued_outside name_refusal wanted value) p (u, i, ([], a, ap (λ (b : Bool). cond b (in_range (value u)) (Err (name_refusal (number u.kind)))) j ∙ ap in_range v, (r, tt))))

-- ---- at `target`

-- another word or mark refuses it
pub refused_class : {B : Type 0} (h : Unit {0} → Reader Tok B) (wanted : TokenKind) → nat_eq (number kinds.Target) (number wanted) ≡ false → (t : Tok) (rest : List Tok) → is_target t.kind ≡ true → (the_at wanted >>= h) (t ∷ rest) ≡ fault_at Syntax (t ∷ rest)
unfolding is_class
refused_class h wanted e t rest q =
    ap (λ (n : ℕ). follow (token_means t rest (cond (nat_eq n (number wanted)) (fine tt) (refuse (refusal n)))) h) (target_is t.kind q)
    ∙ ap (λ (b : Bool). follow (token_means t rest (cond b (fine tt) (refuse Syntax))) h) e

pub refused_one : {A B : Type 0} (h : A → Reader Tok B) (wanted : List ℕ) (value : Tok → A) → contains wanted (number kinds.Target) ≡ false → (t : Tok) (rest : List Tok) → is_target t.kind ≡ true → (one_of_at wanted value >>= h) (t ∷ rest) ≡ fault_at Syntax (t ∷ rest)
unfolding is_among
refused_one h wanted value e t rest q =
    ap (λ (n : ℕ). follow (token_means t rest (cond (contains wanted n) (Ok (value t)) (Err (refusal n)))) h) (target_is t.kind q)
    ∙ ap (λ (b : Bool). follow (token_means t rest (cond b (Ok (value t)) (refuse Syntax))) h) e
