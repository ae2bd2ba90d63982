-- Readers that tell a token that is left out in some places as such exactly where a token that it stands for goes on. The ways of
-- putting readers together keep that.
use Rattle.std.proofs.Common.{◌≡◌, ◌≢◌, ℕ, nat_eq, zero, suc, ◌<◌, Bool, true, false, cond, Some, None, ◌&&◌, not, List, [], ◌∷◌, ◌++◌, length, Result, Ok, Err, refl, sym, ap, subst, ◌∙◌, append_assoc, arith, ◌⊎◌, inl, inr}
use Rattle.std.proofs.lemmas.List.{append-nil, length-append}
use Rattle.ir_lex.specs.TokenKinds.{number}
use Rattle.ir_lex.specs.Tok.{Tok}
use Rattle.ir_lex.specs.declared.token_kind.TokenKind.TheVariants as kinds
use Rattle.ir_lex.specs.declared.token_kind.TokenKind.{TokenKind}
use Rattle.ir_parse_parts.proofs.Composed.{all_real, cut_is, reads, reads_is, wrong, wrong_is}
use Rattle.ir_parse_parts.proofs.Rules.{apart_from, within_of}
use Rattle.ir_parse_parts.specs.Alphabet.{AllReal, among, contains}
use Rattle.ir_parse_parts.specs.Forms as form
use Rattle.ir_parse_parts.specs.Forms.{Form, Star}
use Rattle.ir_parse_parts.specs.Lawful.{IsBound, ends}
use Rattle.ir_parse_parts.specs.Readers.{Reader, fault_at, done, follow, ◌>>=◌, token_means, token_at, pick, many_at, star_at, optional_at}
use Rattle.ir_parse_parts.specs.Rules.{Rule, disjoint, subset}
use Rattle.ir_parse_parts.specs.declared.fault.Fault.{Fault}
use Rattle.ir_parse_parts.specs.declared.fault.TokenFault.TheVariants.{Syntax, Profile, Number, Limit}
use Rattle.ir_parse_parts.specs.declared.fault.TokenFault.{TokenFault}
use Rattle.ir_parse_parts.specs.Classes.{tokens, IsReal}
use Rattle.ir_parse_heads.specs.FunctionHeads.{GLOBAL}
use Rattle.ir_parse_parts.specs.Operands.{REG}
use Rattle.ir_parse_heads.specs.Targets.{STRING}
use Rattle.ir_parse_operands.specs.ShapeForms.{OPEN_ANGLE, OPEN_BRACE}
use Rattle.ir_parse.specs.Refusals.{MEMORY, WORD, last_is}

-- the classes of the tokens that one of this class stands for, directly behind `<` or not; a string stands for each other
abbrev pub stands_for : Bool → TokenKind → List ℕ
stands_for angled kinds.RefusedType = REG
stands_for angled kinds.Target = REG ++ WORD
stands_for angled kinds.RegisterInteger = MEMORY
stands_for angled kinds.NumberedGlobal = GLOBAL
stands_for angled kinds.NumberedDefinition = GLOBAL
stands_for angled kinds.Str = STRING
stands_for angled kinds.Number = cond angled OPEN_BRACE []
stands_for angled h = []

-- a plain word goes on where `target` doesn't
abbrev pub WordGoes : TokenKind → (Tok → Type 0) → Type 0
WordGoes kinds.Target Goes = (w : Tok) × (among tokens WORD w ≡ true) × Goes w
WordGoes h Goes = ⊥

-- why one of this class isn't told to be left out: no token that it stands for goes on, or not each; of a number that is said directly
-- behind `<`, and of a lifetime marker what stands before it
abbrev pub NotTold : Bool → TokenKind → (Tok → Type 0) → (Tok → Type 0) → Type 0 → Type 0
NotTold angled kinds.RefusedType Stuck Goes Named = (u : Tok) → among tokens REG u ≡ true → Stuck u
NotTold angled kinds.Target Stuck Goes Named = ((u : Tok) → among tokens REG u ≡ true → Stuck u) ⊎ ((w : Tok) × (among tokens WORD w ≡ true) × Goes w)
NotTold angled kinds.RegisterInteger Stuck Goes Named = (u : Tok) × (among tokens MEMORY u ≡ true) × IsReal u × Stuck u
NotTold angled kinds.NumberedGlobal Stuck Goes Named = (u : Tok) → among tokens GLOBAL u ≡ true → Stuck u
NotTold angled kinds.NumberedDefinition Stuck Goes Named = (u : Tok) → among tokens GLOBAL u ≡ true → Stuck u
NotTold angled kinds.LifetimeMarker Stuck Goes Named = Named
NotTold angled kinds.Str Stuck Goes Named = (u : Tok) → among tokens STRING u ≡ true → Stuck u
NotTold angled kinds.Number Stuck Goes Named = angled ≡ true → (u : Tok) → among tokens OPEN_BRACE u ≡ true → Stuck u
NotTold angled h Stuck Goes Named = Unit {0}

-- why it is: one that it stands for goes on, or each; and where `target` is told no plain word goes on
abbrev pub IsTold : Bool → TokenKind → (Tok → Type 0) → (Tok → Type 0) → Type 0
IsTold angled kinds.RefusedType Stuck Goes = (u : Tok) × (among tokens REG u ≡ true) × Goes u
IsTold angled kinds.Target Stuck Goes = ((u : Tok) × (among tokens REG u ≡ true) × Goes u) × ((w : Tok) → among tokens WORD w ≡ true → Stuck w)
IsTold angled kinds.RegisterInteger Stuck Goes = (u : Tok) → among tokens MEMORY u ≡ true → IsReal u → Goes u
IsTold angled kinds.NumberedGlobal Stuck Goes = (u : Tok) × (among tokens GLOBAL u ≡ true) × Goes u
IsTold angled kinds.NumberedDefinition Stuck Goes = (u : Tok) × (among tokens GLOBAL u ≡ true) × Goes u
IsTold angled kinds.Str Stuck Goes = (u : Tok) × (among tokens STRING u ≡ true) × Goes u
IsTold angled kinds.Number Stuck Goes = angled ≡ true → (u : Tok) × (among tokens OPEN_BRACE u ≡ true) × Goes u
IsTold angled h Stuck Goes = Unit {0}

-- behind these tokens this one is refused, not only for its range or a limit
abbrev pub Stuck : {A : Type 0} → Reader Tok A → List Tok → Tok → Type 0
Stuck f front u = (rest : List Tok) → (k : TokenFault) × (IsBound k → ⊥) × (f (front ++ u ∷ rest) ≡ fault_at k (u ∷ rest))

-- some continuation with it is of the form
abbrev pub Goes : {A : Type 0} → Form Tok A → List Tok → Tok → Type 0
Goes {A} wide front u = (more : List Tok) × (a : A) × wide (front ++ u ∷ more) a × AllReal tokens (u ∷ more)

-- a reading ends before it
abbrev pub Stays : {A : Type 0} → Reader Tok A → List Tok → A → Tok → Type 0
Stays f front a u = (rest : List Tok) → f (front ++ u ∷ rest) ≡ reads a (u ∷ rest)

-- what stands before a lifetime marker that is told against the syntax
abbrev pub Place : Type 1
Place = Form Tok (Unit {0})

abbrev pub nowhere : Place
nowhere ts u = ⊥

-- the last of them is `<`
abbrev pub is_angled : List Tok → Bool
is_angled front = last_is (among tokens OPEN_ANGLE) front

-- what a reading says at a token of this class of those that it stands for; only some readings end where a plain word goes on and
-- `target` doesn't
abbrev pub OutcomeAt : {A : Type 0} → Bool → Place → Form Tok A → Reader Tok A → Bool → List Tok → TokenKind → Result A TokenFault → Type 0
OutcomeAt words place wide f angled front h (Ok a) = ((u : Tok) → among tokens (stands_for angled h) u ≡ true → Stays f front a u) ⊎ ((words ≡ true) × WordGoes h (Goes wide front))
OutcomeAt words place wide f angled front h (Err Syntax) = NotTold angled h (Stuck f front) (Goes wide front) (place front tt)
OutcomeAt words place wide f angled front h (Err Profile) = IsTold angled h (Stuck f front) (Goes wide front)
OutcomeAt words place wide f angled front h (Err Number) = Unit {0}
OutcomeAt words place wide f angled front h (Err Limit) = Unit {0}

abbrev pub Outcome : {A : Type 0} → Bool → Place → Form Tok A → Reader Tok A → List Tok → TokenKind → Result A TokenFault → Type 0
Outcome words place wide f front h o = OutcomeAt words place wide f (is_angled front) front h o

-- Some readings end where a plain word goes on, and some behind `<`; before a lifetime marker that is told against the syntax stands such
-- a place.
pub record Swaps {A : Type 0} (words loose : Bool) (place : Place) (wide : Form Tok A) (f : Reader Tok A) : Type 0 where
  pub sound : (ts rest : List Tok) (a : A) → f ts ≡ reads a rest → (front : List Tok) × (ts ≡ front ++ rest) × wide front a
  pub placed : (ts : List Tok) (e : Fault) → f ts ≡ wrong e → (front : List Tok) × (rest : List Tok) × (ts ≡ front ++ rest) × (length rest ≡ e.left)
  pub local : (front : List Tok) (t : Tok) (rest rest' : List Tok) (o : Result A TokenFault) → f (front ++ t ∷ rest) ≡ ends o (t ∷ rest) → f (front ++ t ∷ rest') ≡ ends o (t ∷ rest')
  pub some : (ts : List Tok) × (a : A) × wide ts a × AllReal tokens ts
  pub closed : (front rest : List Tok) (a : A) → f (front ++ rest) ≡ reads a rest → is_angled front ≡ true → loose ≡ true
  pub swap : (front : List Tok) (t : Tok) (rest : List Tok) (o : Result A TokenFault) → f (front ++ t ∷ rest) ≡ ends o (t ∷ rest) → Outcome words place wide f front t.kind o

abbrev pub Swapping : {A : Type 0} → Bool → Place → Form Tok A → Reader Tok A → Type 0
Swapping words place wide f = Swaps words false place wide f

-- of a reader that never tells a lifetime marker against the syntax
abbrev pub Exchanging : {A : Type 0} → Bool → Form Tok A → Reader Tok A → Type 0
Exchanging words wide f = Swapping words nowhere wide f

abbrev pub Exchanges : {A : Type 0} → Form Tok A → Reader Tok A → Type 0
Exchanges wide f = Exchanging false wide f

-- ---- the same of other readings

pub a_type : (u : Tok) → among tokens REG u ≡ true → among tokens (REG ++ WORD) u ≡ true
a_type u i = within_of REG (REG ++ WORD) refl (number u.kind) i

pub a_plain_word : (w : Tok) → among tokens WORD w ≡ true → among tokens (REG ++ WORD) w ≡ true
a_plain_word w i = within_of WORD (REG ++ WORD) refl (number w.kind) i

pub not_told_too : (angled : Bool) (h : TokenKind) (S S' G G' : Tok → Type 0) (P P' : Type 0) → ((u : Tok) → among tokens (stands_for angled h) u ≡ true → S u → S' u) → ((u : Tok) → G u → G' u) → (P → P') → NotTold angled h S G P → NotTold angled h S' G' P'
not_told_too angled kinds.RefusedType S S' G G' P P' s g p n = λ u i. s u i (n u i)
not_told_too angled kinds.Target S S' G G' P P' s g p (inl n) = inl (λ u i. s u (a_type u i) (n u i))
not_told_too angled kinds.Target S S' G G' P P' s g p (inr (w, i, n)) = inr (w, i, g w n)
not_told_too angled kinds.RegisterInteger S S' G G' P P' s g p (u, i, r, n) = (u, i, r, s u i n)
not_told_too angled kinds.NumberedGlobal S S' G G' P P' s g p n = λ u i. s u i (n u i)
not_told_too angled kinds.NumberedDefinition S S' G G' P P' s g p n = λ u i. s u i (n u i)
not_told_too angled kinds.LifetimeMarker S S' G G' P P' s g p n = p n
not_told_too angled kinds.Str S S' G G' P P' s g p n = λ u i. s u i (n u i)
not_told_too angled kinds.Number S S' G G' P P' s g p n = λ q u i. s u (subst (λ (b : Bool). among tokens (cond b OPEN_BRACE []) u ≡ true) (sym q) i) (n q u i)
not_told_too angled h S S' G G' P P' s g p n = tt

pub told_too : (angled : Bool) (h : TokenKind) (S S' G G' : Tok → Type 0) → ((u : Tok) → among tokens (stands_for angled h) u ≡ true → S u → S' u) → ((u : Tok) → G u → G' u) → IsTold angled h S G → IsTold angled h S' G'
told_too angled kinds.RefusedType S S' G G' s g (u, i, n) = (u, i, g u n)
told_too angled kinds.Target S S' G G' s g ((u, i, n), m) = ((u, i, g u n), λ w j. s w (a_plain_word w j) (m w j))
told_too angled kinds.RegisterInteger S S' G G' s g n = λ u i r. g u (n u i r)
told_too angled kinds.NumberedGlobal S S' G G' s g (u, i, n) = (u, i, g u n)
told_too angled kinds.NumberedDefinition S S' G G' s g (u, i, n) = (u, i, g u n)
told_too angled kinds.Str S S' G G' s g (u, i, n) = (u, i, g u n)
told_too angled kinds.Number S S' G G' s g n = λ q. let v = n q in (v.0, v.1, g v.0 v.2)
told_too angled h S S' G G' s g n = tt

pub word_too : (h : TokenKind) (G G' : Tok → Type 0) → ((u : Tok) → G u → G' u) → WordGoes h G → WordGoes h G'
word_too kinds.Target G G' g (w, i, n) = (w, i, g w n)
word_too h G G' g n = absurd n

-- where a word goes on, `target` isn't told to be left out
pub word_not_told : (angled : Bool) (h : TokenKind) (S G : Tok → Type 0) (P : Type 0) → WordGoes h G → NotTold angled h S G P
word_not_told angled kinds.Target S G P n = inr n
word_not_told angled h S G P n = absurd n

module _ {A B : Type 0} (words words' : Bool) (place place' : Place) (wide : Form Tok A) (wide' : Form Tok B) (f : Reader Tok A) (f' : Reader Tok B) (angled : Bool) (front front' : List Tok) (h : TokenKind) where
  -- what is said of one reading is said of another
  pub err_too : (k : TokenFault) → (place front tt → place' front' tt) → ((u : Tok) → among tokens (stands_for angled h) u ≡ true → Stuck f front u → Stuck f' front' u) → ((u : Tok) → Goes wide front u → Goes wide' front' u) → OutcomeAt words place wide f angled front h (Err k) → OutcomeAt words' place' wide' f' angled front' h (Err k)
  err_too Syntax v s g n = not_told_too angled h (Stuck f front) (Stuck f' front') (Goes wide front) (Goes wide' front') (place front tt) (place' front' tt) s g v n
  err_too Profile v s g n = told_too angled h (Stuck f front) (Stuck f' front') (Goes wide front) (Goes wide' front') s g n
  err_too Number v s g n = tt
  err_too Limit v s g n = tt

  pub ok_too : (words ≡ true → words' ≡ true) → (a : A) (b : B) → ((u : Tok) → among tokens (stands_for angled h) u ≡ true → Stays f front a u → Stays f' front' b u) → ((u : Tok) → Goes wide front u → Goes wide' front' u) → OutcomeAt words place wide f angled front h (Ok a) → OutcomeAt words' place' wide' f' angled front' h (Ok b)
  ok_too q a b s g (inl n) = inl (λ u i. s u i (n u i))
  ok_too q a b s g (inr (e, w)) = inr (q e, word_too h (Goes wide front) (Goes wide' front') g w)

pub outcome_too : {A : Type 0} (words words' : Bool) (place place' : Place) (wide wide' : Form Tok A) (f f' : Reader Tok A) (angled : Bool) (front front' : List Tok) (h : TokenKind) (o : Result A TokenFault) → (words ≡ true → words' ≡ true) → (place front tt → place' front' tt) → ((u : Tok) → among tokens (stands_for angled h) u ≡ true → (rest : List Tok) → f (front ++ u ∷ rest) ≡ f' (front' ++ u ∷ rest)) → ((u : Tok) → Goes wide front u → Goes wide' front' u)
    → OutcomeAt words place wide f angled front h o → OutcomeAt words' place' wide' f' angled front' h o
outcome_too words words' place place' wide wide' f f' angled front front' h (Ok a) q v same g n = ok_too words words' place place' wide wide' f f' angled front front' h q a a (λ u i s rest. sym (same u i rest) ∙ s rest) g n
outcome_too words words' place place' wide wide' f f' angled front front' h (Err k) q v same g n = err_too words words' place place' wide wide' f f' angled front front' h k v (λ u i s rest. let r = s rest in (r.0, r.1, sym (same u i rest) ∙ r.2)) g n

pub differ : false ≡ true → ⊥
differ e = cc

-- a result is one of the two
pub not_both : {A E : Type 0} (a : A) (e : E) → Ok a ≡ Err e → ⊥
not_both a e h = cc

-- what holds of one kind of token holds of each of its class
pub only_number : (P : TokenKind → Type 0) → P kinds.Number → (h : TokenKind) → nat_eq (number h) (number kinds.Number) ≡ true → P h
only_number P p kinds.Number e = p
only_number P p h e = absurd (differ e)

pub only_string : (P : TokenKind → Type 0) → P kinds.Str → (h : TokenKind) → contains STRING (number h) ≡ true → P h
only_string P p kinds.Str e = p
only_string P p h e = absurd (differ e)

pub only_marker : (P : TokenKind → Type 0) → P kinds.LifetimeMarker → (h : TokenKind) → nat_eq (number h) (number kinds.LifetimeMarker) ≡ true → P h
only_marker P p kinds.LifetimeMarker e = p
only_marker P p h e = absurd (differ e)

pub never_angled : (front : List Tok) → front ≡ [] → is_angled front ≡ true → ⊥
never_angled front n e = differ (ap is_angled (sym n) ∙ e)

-- the last token of what isn't empty
pub angled_behind : (one : List Tok) (v : Tok) (mid : List Tok) → is_angled (v ∷ mid) ≡ is_angled (one ++ v ∷ mid)
angled_behind [] v mid = refl
angled_behind (t ∷ []) v mid = refl
angled_behind (t ∷ u ∷ one) v mid = angled_behind (u ∷ one) v mid

-- but for a number, what stands before is all one
stands_alike : (h : TokenKind) → nat_eq (number h) (number kinds.Number) ≡ false → (n : ℕ) → contains (stands_for true h) n ≡ true → contains (stands_for false h) n ≡ true
stands_alike kinds.Number z n i = absurd (differ (sym z))
stands_alike h z n i = i

not_told_alike : (h : TokenKind) (S G : Tok → Type 0) (P : Type 0) → nat_eq (number h) (number kinds.Number) ≡ false → NotTold false h S G P → NotTold true h S G P
not_told_alike kinds.Number S G P z n = absurd (differ (sym z))
not_told_alike h S G P z n = n

told_alike : (h : TokenKind) (S G : Tok → Type 0) → nat_eq (number h) (number kinds.Number) ≡ false → IsTold false h S G → IsTold true h S G
told_alike kinds.Number S G z n = absurd (differ (sym z))
told_alike h S G z n = n

pub same_at : {A : Type 0} (words : Bool) (place : Place) (wide : Form Tok A) (f : Reader Tok A) (front : List Tok) (h : TokenKind) (o : Result A TokenFault) → nat_eq (number h) (number kinds.Number) ≡ false → OutcomeAt words place wide f false front h o → OutcomeAt words place wide f true front h o
same_at words place wide f front h (Ok a) z (inl stays) = inl (λ u i. stays u (stands_alike h z (number u.kind) i))
same_at words place wide f front h (Ok a) z (inr goes) = inr goes
same_at words place wide f front h (Err Syntax) z p = not_told_alike h (Stuck f front) (Goes wide front) (place front tt) z p
same_at words place wide f front h (Err Profile) z p = told_alike h (Stuck f front) (Goes wide front) z p
same_at words place wide f front h (Err Number) z p = p
same_at words place wide f front h (Err Limit) z p = p

-- ---- no token

module _ {A : Type 0} (a : A) where
  ends_here : (front : List Tok) (t : Tok) (rest : List Tok) (o : Result A TokenFault) → reads a (front ++ t ∷ rest) ≡ ends o (t ∷ rest) → (front ≡ []) × (o ≡ Ok a)
  ends_here front t rest (Ok b) h =
      let p = reads_is a b (front ++ t ∷ rest) (t ∷ rest) h in
      ((cut_is front (t ∷ rest) [] (t ∷ rest) p.1 refl).0, ap (λ (x : A). Ok x) (sym p.0))
  ends_here front t rest (Err k) h = absurd cc

  pub nothing : Exchanges (form.gives a) (done a)
  nothing = record {
    sound = λ ts rest b e. let h = reads_is a b ts rest e in ([], h.1, (refl, sym h.0));
    placed = λ ts e d. absurd cc;
    local = λ front t rest rest' o d. let h = ends_here front t rest o d in rw (h.0, h.1) refl;
    some = ([], a, (refl, refl), tt);
    closed = λ front rest b d e. absurd (never_angled front (cut_is front rest [] rest (reads_is a b (front ++ rest) rest d).1 refl).0 e);
    swap = λ front t rest o d. let h = ends_here front t rest o d in subst (λ (y : Result A TokenFault). Outcome false nowhere (form.gives a) (done a) front t.kind y) (sym h.1) (subst (λ (y : List Tok). Outcome false nowhere (form.gives a) (done a) y t.kind (Ok a)) (sym h.0) (inl (λ u i rest'. refl)));
  }

-- ---- one behind another

pub placed_of : {A : Type 0} {words loose : Bool} {place : Place} {wide : Form Tok A} {f : Reader Tok A} → Swaps words loose place wide f → (ts us : List Tok) (o : Result A TokenFault) → f ts ≡ ends o us → (front : List Tok) × (rest : List Tok) × (ts ≡ front ++ rest) × (length rest ≡ length us)
placed_of law ts us (Ok a) h = let s = law.sound ts us a h in (s.0, us, s.1, refl)
placed_of law ts us (Err k) h = law.placed ts (record { left = length us; kind = k }) h

pub err_ends : {B : Type 0} (e : Fault) (o : Result B TokenFault) (us : List Tok) → wrong e ≡ ends o us → (kind : TokenFault) × (o ≡ Err kind) × (e ≡ record { left = length us; kind = kind })
err_ends e (Ok b) us d = absurd cc
err_ends e (Err kind) us d = (kind, refl, wrong_is e (record { left = length us; kind = kind }) d)

-- how a reading may end that follows one which ended where a plain word goes on: not by telling `target`
abbrev pub MayFollow : {B : Type 0} → Bool → Result B TokenFault → Type 0
MayFollow words (Ok b) = words ≡ true
MayFollow words (Err Profile) = ⊥
MayFollow words (Err Syntax) = Unit {0}
MayFollow words (Err Number) = Unit {0}
MayFollow words (Err Limit) = Unit {0}

pub is_target : TokenKind → Bool
is_target kinds.Target = true
is_target h = false

module _ {A B : Type 0} {words words' loose loose' : Bool} (result result_loose : Bool) {one_place : Place} {other_place : A → Place} (place : Place) {wide : Form Tok A} {f : Reader Tok A} {wide' : A → Form Tok B} {h : A → Reader Tok B} (law : Swaps words loose one_place wide f) (laws : (a : A) → Swaps words' loose' (other_place a) (wide' a) (h a)) (into : words' ≡ true → result ≡ true)
    (loose_first : loose ≡ true → (a : A) (b : B) → wide' a [] b → result_loose ≡ true) (loose_second : loose' ≡ true → result_loose ≡ true)
    (after : loose ≡ true → (a : A) (t : Tok) (rest : List Tok) (o : Result B TokenFault) → h a (t ∷ rest) ≡ ends o (t ∷ rest) → OutcomeAt words' (other_place a) (wide' a) (h a) true [] t.kind o)
    (within_first : (front : List Tok) → one_place front tt → place front tt) (within_second : (one two : List Tok) (a : A) → wide one a → other_place a two tt → place (one ++ two) tt)
    (follows : words ≡ true → (a : A) (t : Tok) (rest : List Tok) (o : Result B TokenFault) → is_target t.kind ≡ true → h a (t ∷ rest) ≡ ends o (t ∷ rest) → MayFollow result o) where
  abbrev both : Form Tok B
  both = form.◌>>=◌ wide wide'

  sound_seq : (ts rest : List Tok) (b : B) (r : Result (A × List Tok) Fault) → f ts ≡ r → follow r h ≡ reads b rest → (front : List Tok) × (ts ≡ front ++ rest) × both front b
  unfolding form.◌>>=◌
  sound_seq ts rest b (Ok x) e d =
      let p = law.sound ts x.1 x.0 e in
      let q = (laws x.0).sound x.1 rest b d in
      (p.0 ++ q.0, p.1 ∙ ap (λ (y : List Tok). p.0 ++ y) q.1 ∙ sym (append_assoc p.0 q.0 rest), (p.0, q.0, x.0, refl, p.2, q.2))
  sound_seq ts rest b (Err e') e d = absurd cc

  placed_seq : (ts : List Tok) (e : Fault) (r : Result (A × List Tok) Fault) → f ts ≡ r → follow r h ≡ wrong e → (front : List Tok) × (rest : List Tok) × (ts ≡ front ++ rest) × (length rest ≡ e.left)
  placed_seq ts e (Ok x) i d =
      let p = law.sound ts x.1 x.0 i in
      let v = (laws x.0).placed x.1 e d in
      (p.0 ++ v.0, v.1, p.1 ∙ ap (λ (y : List Tok). p.0 ++ y) v.2 ∙ sym (append_assoc p.0 v.0 v.1), v.3)
  placed_seq ts e (Err d') i d = let v = law.placed ts d' i in (v.0, v.1, v.2, v.3 ∙ ap (λ (x : Fault). x.left) (wrong_is d' e d))

  -- the first goes on with it, so do both
  goes_first : (front : List Tok) (u : Tok) → Goes wide front u → Goes both front u
  unfolding form.◌>>=◌
  goes_first front u (more, a, s, r) =
      let z = (laws a).some in
      (more ++ z.0, z.1, (front ++ u ∷ more, z.0, a, sym (append_assoc front (u ∷ more) z.0), s, z.2), all_real tokens (u ∷ more) z.0 r z.3)

  -- the second does, behind the first
  goes_second : (front mid : List Tok) (a : A) → wide front a → (u : Tok) → Goes (wide' a) mid u → Goes both (front ++ mid) u
  unfolding form.◌>>=◌
  goes_second front mid a s u (more, b, s', r) = (more, b, (front, mid ++ u ∷ more, a, append_assoc front mid (u ∷ more), s, s'), r)

  stuck_first : (front : List Tok) (u : Tok) → Stuck f front u → Stuck (f >>= h) front u
  stuck_first front u s rest = let r = s rest in (r.0, r.1, ap (λ (y : Result (A × List Tok) Fault). follow y h) r.2)

  -- behind the first reading the second is the whole
  whole : (front mid : List Tok) (a : A) (u : Tok) (rest : List Tok) → f (front ++ (mid ++ u ∷ rest)) ≡ reads a (mid ++ u ∷ rest) → (f >>= h) ((front ++ mid) ++ u ∷ rest) ≡ h a (mid ++ u ∷ rest)
  whole front mid a u rest e = ap (λ (y : List Tok). follow (f y) h) (append_assoc front mid (u ∷ rest)) ∙ ap (λ (y : Result (A × List Tok) Fault). follow y h) e

  -- a cut of what the first reading left
  record Cut (front : List Tok) (t : Tok) (rest : List Tok) (a : A) (left : List Tok) : Type 0 where
    one : List Tok
    two : List Tok
    front_is : front ≡ one ++ two
    left_is : left ≡ two ++ t ∷ rest
    spelled : wide one a
    first : f (one ++ (two ++ t ∷ rest)) ≡ reads a (two ++ t ∷ rest)

  cut : (front : List Tok) (t : Tok) (rest : List Tok) (o : Result B TokenFault) (a : A) (left : List Tok) → f (front ++ t ∷ rest) ≡ reads a left → h a left ≡ ends o (t ∷ rest) → Cut front t rest a left
  cut front t rest o a left i d =
      let p = law.sound (front ++ t ∷ rest) left a i in
      let q = placed_of (laws a) left (t ∷ rest) o d in
      let regrouped : front ++ t ∷ rest ≡ (p.0 ++ q.0) ++ q.1 = p.1 ∙ ap (λ (y : List Tok). p.0 ++ y) q.2 ∙ sym (append_assoc p.0 q.0 q.1) in
      let c = cut_is front (t ∷ rest) (p.0 ++ q.0) q.1 regrouped (sym q.3) in
      let mid : left ≡ q.0 ++ t ∷ rest = q.2 ∙ ap (λ (y : List Tok). q.0 ++ y) (sym c.1) in
      let before : front ++ t ∷ rest ≡ p.0 ++ (q.0 ++ t ∷ rest) = ap (λ (y : List Tok). y ++ t ∷ rest) c.0 ∙ append_assoc p.0 q.0 (t ∷ rest) in
      record { one = p.0; two = q.0; front_is = c.0; left_is = mid; spelled = p.2; first = sym (ap f before) ∙ i ∙ ap (reads a) mid }

  local_first : (front mid : List Tok) (t : Tok) (rest rest' : List Tok) (a : A) → f (front ++ (mid ++ t ∷ rest)) ≡ reads a (mid ++ t ∷ rest) → f (front ++ (mid ++ t ∷ rest')) ≡ reads a (mid ++ t ∷ rest')
  local_first front [] t rest rest' a h = law.local front t rest rest' (Ok a) h
  local_first front (u ∷ mid) t rest rest' a h = law.local front u (mid ++ t ∷ rest) (mid ++ t ∷ rest') (Ok a) h

  local_seq : (front : List Tok) (t : Tok) (rest rest' : List Tok) (o : Result B TokenFault) (r : Result (A × List Tok) Fault) → f (front ++ t ∷ rest) ≡ r → follow r h ≡ ends o (t ∷ rest) → (f >>= h) (front ++ t ∷ rest') ≡ ends o (t ∷ rest')
  local_seq front t rest rest' o (Err e) i d =
      let w = err_ends e o (t ∷ rest) d in
      let one : f (front ++ t ∷ rest') ≡ fault_at w.0 (t ∷ rest') = law.local front t rest rest' (Err w.0) (i ∙ ap wrong w.2) in
      rw w.1 (ap (λ (y : Result (A × List Tok) Fault). follow y h) one)
  local_seq front t rest rest' o (Ok x) i d =
      let c = cut front t rest o x.0 x.1 i d in
      let two : h x.0 (c.two ++ t ∷ rest') ≡ ends o (t ∷ rest') = (laws x.0).local c.two t rest rest' o (ap (h x.0) (sym c.left_is) ∙ d) in
      ap (λ (y : List Tok). (f >>= h) (y ++ t ∷ rest')) c.front_is ∙ whole c.one c.two x.0 t rest' (local_first c.one c.two t rest rest' x.0 c.first) ∙ two

  -- the second reading, behind a first one that stays
  behind : (one two : List Tok) (a : A) → wide one a → (angled : Bool) → angled ≡ is_angled (one ++ two) → (k : TokenKind) (o : Result B TokenFault) → ((u : Tok) → among tokens (stands_for angled k) u ≡ true → (rest : List Tok) → f (one ++ (two ++ u ∷ rest)) ≡ reads a (two ++ u ∷ rest)) → OutcomeAt words' (other_place a) (wide' a) (h a) angled two k o → Outcome result place both (f >>= h) (one ++ two) k o
  behind one two a s angled e k o stays n =
      subst (λ (b : Bool). OutcomeAt result place both (f >>= h) b (one ++ two) k o) e
      (outcome_too words' result (other_place a) place (wide' a) both (h a) (f >>= h) angled two (one ++ two) k o into (within_second one two a s) (λ u i rest. sym (whole one two a u rest (stays u i rest))) (λ u g. goes_second one two a s u g) n)

  word_is : (k : TokenKind) (G : Tok → Type 0) → WordGoes k G → is_target k ≡ true
  unfolding is_target
  word_is kinds.Target G w = refl
  word_is k G w = absurd w

  -- or behind one where a word goes on
  behind_word : (one : List Tok) (k : TokenKind) (o : Result B TokenFault) → WordGoes k (Goes wide one) → MayFollow result o → Outcome result place both (f >>= h) (one ++ []) k o
  behind_word one k (Ok b) w n = inr (n, word_too k (Goes wide one) (Goes both (one ++ [])) (λ u g. goes_first (one ++ []) u (subst (λ (y : List Tok). Goes wide y u) (sym (append-nil one)) g)) w)
  behind_word one k (Err Syntax) w n = word_not_told (is_angled (one ++ [])) k (Stuck (f >>= h) (one ++ [])) (Goes both (one ++ [])) (place (one ++ []) tt) (word_too k (Goes wide one) (Goes both (one ++ [])) (λ u g. goes_first (one ++ []) u (subst (λ (y : List Tok). Goes wide y u) (sym (append-nil one)) g)) w)
  behind_word one k (Err Profile) w n = absurd n
  behind_word one k (Err Number) w n = tt
  behind_word one k (Err Limit) w n = tt

  -- nothing is read behind the first
  nothing_behind : (one : List Tok) (t : Tok) (rest : List Tok) (o : Result B TokenFault) (a : A) → wide one a → f (one ++ t ∷ rest) ≡ reads a (t ∷ rest) → h a (t ∷ rest) ≡ ends o (t ∷ rest) → (angled : Bool) → is_angled one ≡ angled → ((u : Tok) → among tokens (stands_for angled t.kind) u ≡ true → Stays f one a u) → Outcome result place both (f >>= h) (one ++ []) t.kind o
  nothing_behind one t rest o a s e d false q stays = behind one [] a s false (sym (ap is_angled (append-nil one) ∙ q)) t.kind o stays ((laws a).swap [] t rest o d)
  nothing_behind one t rest o a s e d true q stays = behind one [] a s true (sym (ap is_angled (append-nil one) ∙ q)) t.kind o stays (after (law.closed one (t ∷ rest) a e q) a t rest o d)

  swap_second : (one two : List Tok) (t : Tok) (rest : List Tok) (o : Result B TokenFault) (a : A) → wide one a → f (one ++ (two ++ t ∷ rest)) ≡ reads a (two ++ t ∷ rest) → h a (two ++ t ∷ rest) ≡ ends o (t ∷ rest) → Outcome result place both (f >>= h) (one ++ two) t.kind o
  swap_second one (v ∷ mid) t rest o a s e d = behind one (v ∷ mid) a s (is_angled (v ∷ mid)) (angled_behind one v mid) t.kind o (λ u i rest'. law.local one v (mid ++ t ∷ rest) (mid ++ u ∷ rest') (Ok a) e) ((laws a).swap (v ∷ mid) t rest o d)
  swap_second one [] t rest o a s e d = elim (law.swap one t rest (Ok a) e) [
    | inl stays ↦ nothing_behind one t rest o a s e d (is_angled one) refl stays
    | inr w ↦ behind_word one t.kind o w.1 (follows w.0 a t rest o (word_is t.kind (Goes wide one) w.1) d)
  ]

  swap_seq : (front : List Tok) (t : Tok) (rest : List Tok) (o : Result B TokenFault) (r : Result (A × List Tok) Fault) → f (front ++ t ∷ rest) ≡ r → follow r h ≡ ends o (t ∷ rest) → Outcome result place both (f >>= h) front t.kind o
  swap_seq front t rest o (Err e) i d =
      let w = err_ends e o (t ∷ rest) d in
      subst (λ (x : Result B TokenFault). Outcome result place both (f >>= h) front t.kind x) (sym w.1) (err_too words result one_place place wide both f (f >>= h) (is_angled front) front front t.kind w.0 (within_first front) (λ u _ s. stuck_first front u s) (λ u g. goes_first front u g) (law.swap front t rest (Err w.0) (i ∙ ap wrong w.2)))
  swap_seq front t rest o (Ok x) i d =
      let c = cut front t rest o x.0 x.1 i d in
      subst (λ (y : List Tok). Outcome result place both (f >>= h) y t.kind o) (sym c.front_is) (swap_second c.one c.two t rest o x.0 c.spelled c.first (ap (h x.0) (sym c.left_is) ∙ d))

  -- the last token is the second's, or it reads none
  last_of : (one two mid rest : List Tok) (a : A) (b : B) → f (one ++ mid) ≡ reads a mid → h a mid ≡ reads b rest → mid ≡ two ++ rest → wide' a two b → is_angled (one ++ two) ≡ true → result_loose ≡ true
  last_of one [] mid rest a b i d e w q = loose_first (law.closed one mid a i (ap is_angled (sym (append-nil one)) ∙ q)) a b w
  last_of one (v ∷ two) mid rest a b i d e w q = loose_second ((laws a).closed (v ∷ two) rest b (ap (h a) (sym e) ∙ d) (angled_behind one v two ∙ q))

  closed_seq : (front rest : List Tok) (b : B) (r : Result (A × List Tok) Fault) → f (front ++ rest) ≡ r → follow r h ≡ reads b rest → is_angled front ≡ true → result_loose ≡ true
  closed_seq front rest b (Err e) i d q = absurd cc
  closed_seq front rest b (Ok x) i d q =
      let p = law.sound (front ++ rest) x.1 x.0 i in
      let v = (laws x.0).sound x.1 rest b d in
      let both_are = cut_is front rest (p.0 ++ v.0) rest (p.1 ∙ ap (λ (y : List Tok). p.0 ++ y) v.1 ∙ sym (append_assoc p.0 v.0 rest)) refl in
      last_of p.0 v.0 x.1 rest x.0 b (ap f (sym p.1) ∙ i) d v.1 v.2 (ap is_angled (sym both_are.0) ∙ q)

  pub seq_by : Swaps result result_loose place (form.◌>>=◌ wide wide') (f >>= h)
  unfolding form.◌>>=◌
  seq_by = record {
    sound = λ ts rest b e. sound_seq ts rest b (f ts) refl e;
    placed = λ ts e d. placed_seq ts e (f ts) refl d;
    local = λ front t rest rest' o d. local_seq front t rest rest' o (f (front ++ t ∷ rest)) refl d;
    closed = λ front rest b d q. closed_seq front rest b (f (front ++ rest)) refl d q;
    some = let one = law.some in let two = (laws one.1).some in (one.0 ++ two.0, two.1, (one.0, two.0, one.1, refl, one.2, two.2), all_real tokens one.0 two.0 one.3 two.3);
    swap = λ front t rest o d. swap_seq front t rest o (f (front ++ t ∷ rest)) refl d;
  }

valued_end : {B : Type 0} (b : B) (us : List Tok) (o : Result B TokenFault) → reads b us ≡ ends o us → MayFollow true o
valued_end b us (Ok c) d = refl
valued_end b us (Err k) d = absurd cc

pub seq : {A B : Type 0} {wide : Form Tok A} {f : Reader Tok A} {wide' : A → Form Tok B} {h : A → Reader Tok B} → Exchanges wide f → ((a : A) → Exchanges (wide' a) (h a)) → Exchanges (form.◌>>=◌ wide wide') (f >>= h)
seq law laws = seq_by false false nowhere law laws (λ e. e) (λ e a b w. e) (λ e. e) (λ e. absurd (differ e)) (λ front v. v) (λ one two a s v. v) (λ e. absurd (differ e))

-- of which the second may end where a plain word goes on
pub seq_into : {A B : Type 0} {wide : Form Tok A} {f : Reader Tok A} {wide' : A → Form Tok B} {h : A → Reader Tok B} → Exchanges wide f → ((a : A) → Exchanging true (wide' a) (h a)) → Exchanging true (form.◌>>=◌ wide wide') (f >>= h)
seq_into law laws = seq_by true false nowhere law laws (λ e. e) (λ e a b w. e) (λ e. e) (λ e. absurd (differ e)) (λ front v. v) (λ one two a s v. v) (λ e. absurd (differ e))

-- what stands before the second, behind the first
pub place_behind : {A : Type 0} (wide : Form Tok A) (place : A → Place) (one two : List Tok) (a : A) → wide one a → place a two tt → form.◌>>=◌ wide place (one ++ two) tt
unfolding form.◌>>=◌
place_behind wide place one two a s v = (one, two, a, refl, s, v)

-- of which the second tells a lifetime marker against the syntax in some places
pub seq_to : {A B : Type 0} {words : Bool} {place : A → Place} {wide : Form Tok A} {f : Reader Tok A} {wide' : A → Form Tok B} {h : A → Reader Tok B} → Exchanges wide f → ((a : A) → Swapping words (place a) (wide' a) (h a)) → Swapping words (form.◌>>=◌ wide place) (form.◌>>=◌ wide wide') (f >>= h)
seq_to {words = words} {place = place} {wide = wide} law laws = seq_by words false (form.◌>>=◌ wide place) law laws (λ e. e) (λ e a b w. e) (λ e. e) (λ e. absurd (differ e)) (λ front v. absurd v) (λ one two a s v. place_behind wide place one two a s v) (λ e. absurd (differ e))

-- of which the first does
pub seq_from : {A B : Type 0} {words : Bool} {place : Place} {wide : Form Tok A} {f : Reader Tok A} {wide' : A → Form Tok B} {h : A → Reader Tok B} → Swapping false place wide f → ((a : A) → Exchanging words (wide' a) (h a)) → Swapping words place (form.◌>>=◌ wide wide') (f >>= h)
seq_from {words = words} {place = place} law laws = seq_by words false place law laws (λ e. e) (λ e a b w. e) (λ e. e) (λ e. absurd (differ e)) (λ front v. v) (λ one two a s v. absurd v) (λ e. absurd (differ e))

-- of which the first may, and the second reads nothing
pub with_value : {A B : Type 0} {place : Place} {wide : Form Tok A} {f : Reader Tok A} (value : A → B) → Swapping true place wide f → Swapping true place (form.◌>>=◌ wide (λ a. form.gives (value a))) (f >>= λ a. done (value a))
with_value {place = place} value law = seq_by true false place law (λ a. nothing (value a)) (λ e. refl) (λ e a b w. e) (λ e. e) (λ e. absurd (differ e)) (λ front v. v) (λ one two a s v. absurd v) (λ e a t rest o i d. valued_end (value a) (t ∷ rest) o d)

-- of which the second may end behind `<`
pub seq_loosely : {A B : Type 0} {wide : Form Tok A} {f : Reader Tok A} {wide' : A → Form Tok B} {h : A → Reader Tok B} → Exchanges wide f → ((a : A) → Swaps false true nowhere (wide' a) (h a)) → Swaps false true nowhere (form.◌>>=◌ wide wide') (f >>= h)
seq_loosely law laws = seq_by false true nowhere law laws (λ e. e) (λ e. absurd (differ e)) (λ e. e) (λ e. absurd (differ e)) (λ front v. v) (λ one two a s v. v) (λ e. absurd (differ e))

pub nothing_after : {B : Type 0} (b : B) (t : Tok) (rest : List Tok) (o : Result B TokenFault) → reads b (t ∷ rest) ≡ ends o (t ∷ rest) → OutcomeAt false nowhere (form.gives b) (done b) true [] t.kind o
nothing_after {B} b t rest (Ok c) d = inl (λ u i rest'. ap (λ (x : B). reads x (u ∷ rest')) (reads_is b c (t ∷ rest) (t ∷ rest) d).0)
nothing_after b t rest (Err k) d = absurd cc

-- of which the first may, and the second reads nothing
pub value_loosely : {A B : Type 0} {place : Place} {wide : Form Tok A} {f : Reader Tok A} (value : A → B) → Swaps false true place wide f → Swaps false true place (form.◌>>=◌ wide (λ a. form.gives (value a))) (f >>= λ a. done (value a))
value_loosely {place = place} value law = seq_by false true place law (λ a. nothing (value a)) (λ e. e) (λ e a b w. refl) (λ e. refl) (λ e a t rest o d. nothing_after (value a) t rest o d) (λ front v. v) (λ one two a s v. absurd v) (λ e. absurd (differ e))

-- ---- behind what may end where a plain word goes on

syntax_follows : {B : Type 0} (o : Result B TokenFault) (us : List Tok) → fault_at Syntax us ≡ ends o us → MayFollow false o
syntax_follows (Ok b) us d = absurd cc
syntax_follows {B} (Err k) us d = subst (λ (x : TokenFault). MayFollow {B = B} false (Err x)) (ap (λ (x : Fault). x.kind) (wrong_is {X = B × List Tok} (record { left = length us; kind = Syntax }) (record { left = length us; kind = k }) d)) tt

-- the second refuses `target`
pub seq_closing : {A B : Type 0} {place : Place} {wide : Form Tok A} {f : Reader Tok A} {wide' : A → Form Tok B} {h : A → Reader Tok B} → Swapping true place wide f → ((a : A) → Exchanges (wide' a) (h a)) → ((a : A) (t : Tok) (rest : List Tok) → is_target t.kind ≡ true → h a (t ∷ rest) ≡ fault_at Syntax (t ∷ rest)) → Swapping false place (form.◌>>=◌ wide wide') (f >>= h)
seq_closing {place = place} law laws closes = seq_by false false place law laws (λ e. e) (λ e a b w. e) (λ e. e) (λ e. absurd (differ e)) (λ front v. v) (λ one two a s v. absurd v) (λ v a t rest o q d. syntax_follows o (t ∷ rest) (sym (closes a t rest q) ∙ d))

-- and tells a lifetime marker against the syntax in some places
pub seq_closing_to : {A B : Type 0} {place : A → Place} {wide : Form Tok A} {f : Reader Tok A} {wide' : A → Form Tok B} {h : A → Reader Tok B} → Exchanging true wide f → ((a : A) → Swapping false (place a) (wide' a) (h a)) → ((a : A) (t : Tok) (rest : List Tok) → is_target t.kind ≡ true → h a (t ∷ rest) ≡ fault_at Syntax (t ∷ rest))
    → Swapping false (form.◌>>=◌ wide place) (form.◌>>=◌ wide wide') (f >>= h)
seq_closing_to {place = place} {wide = wide} law laws closes = seq_by false false (form.◌>>=◌ wide place) law laws (λ e. e) (λ e a b w. e) (λ e. e) (λ e. absurd (differ e)) (λ front v. absurd v) (λ one two a s v. place_behind wide place one two a s v) (λ v a t rest o q d. syntax_follows o (t ∷ rest) (sym (closes a t rest q) ∙ d))

-- the second may read nothing before it
pub seq_passing : {A B : Type 0} {wide : Form Tok A} {f : Reader Tok A} {wide' : A → Form Tok B} {h : A → Reader Tok B} → Exchanging true wide f → ((a : A) → Exchanges (wide' a) (h a)) → ((a : A) (t : Tok) (rest : List Tok) → is_target t.kind ≡ true → (b : B) × (h a (t ∷ rest) ≡ reads b (t ∷ rest))) → Exchanging true (form.◌>>=◌ wide wide') (f >>= h)
seq_passing law laws passes = seq_by true false nowhere law laws (λ e. absurd (differ e)) (λ e a b w. e) (λ e. e) (λ e. absurd (differ e)) (λ front v. v) (λ one two a s v. v) (λ v a t rest o q d. let p = passes a t rest q in valued_end p.0 (t ∷ rest) o (sym p.1 ∙ d))

pub target_is : (h : TokenKind) → is_target h ≡ true → number h ≡ number kinds.Target
unfolding is_target
target_is kinds.Target e = refl
target_is h e = absurd (differ e)

-- ---- of a reader that is tied to its form

pub of_rule : {A : Type 0} {loose : Bool} {g wide : Form Tok A} {f : Reader Tok A} {xs ms : List ℕ} {e : Bool} → Rule tokens g wide f xs ms e → ((front rest : List Tok) (a : A) → f (front ++ rest) ≡ reads a rest → is_angled front ≡ true → loose ≡ true) → ((front : List Tok) (t : Tok) (rest : List Tok) (o : Result A TokenFault) → f (front ++ t ∷ rest) ≡ ends o (t ∷ rest) → Outcome false nowhere wide f front t.kind o) → Swaps false loose nowhere wide f
of_rule rule closed swap = record {
  sound = λ ts rest a e. let s = rule.law.sound ts rest a e in (s.0, s.1, rule.law.contains s.0 a s.2);
  placed = λ ts e d. let v = rule.law.viable ts e d in (v.front, v.rest, v.whole, v.here);
  local = rule.law.local;
  some = let z = rule.law.some in (z.0, z.1, rule.law.contains z.0 z.1 z.2, z.3);
  closed = closed;
  swap = swap;
}

-- what isn't empty
pub taken : {A : Type 0} {g wide : Form Tok A} {f : Reader Tok A} {xs ms : List ℕ} → Rule tokens g wide f xs ms false → (a : A) → wide [] a → ⊥
taken rule a s = never (rule.law.broad.nothing a s)
  where
    never : false ≡ true → ⊥
    never e = cc

-- the same reader of a form that has more
pub recast : {A : Type 0} {words loose : Bool} {place : Place} {wide wide' : Form Tok A} {f : Reader Tok A} → ((ts : List Tok) (a : A) → wide ts a → wide' ts a) → Swaps words loose place wide f → Swaps words loose place wide' f
recast {words = words} {place = place} {wide = wide} {wide' = wide'} {f = f} over law = record {
  sound = λ ts rest a e. let s = law.sound ts rest a e in (s.0, s.1, over s.0 a s.2);
  placed = law.placed;
  local = law.local;
  some = let z = law.some in (z.0, z.1, over z.0 z.1 z.2, z.3);
  closed = law.closed;
  swap = λ front t rest o d. outcome_too words words place place wide wide' f f (is_angled front) front front t.kind o (λ e. e) (λ v. v) (λ u i rest'. refl) (λ u g. (g.0, g.1, over (front ++ u ∷ g.0) g.1 g.2, g.3)) (law.swap front t rest o d);
}

-- the same reader, with more places before a lifetime marker
pub placed_too : {A : Type 0} {words loose : Bool} {place : Place} (place' : Place) {wide : Form Tok A} {f : Reader Tok A} → ((front : List Tok) → place front tt → place' front tt) → Swaps words loose place wide f → Swaps words loose place' wide f
placed_too {words = words} {place = place} place' {wide = wide} {f = f} too law = record {
  sound = law.sound;
  placed = law.placed;
  local = law.local;
  some = law.some;
  closed = law.closed;
  swap = λ front t rest o d. outcome_too words words place place' wide wide f f (is_angled front) front front t.kind o (λ e. e) (too front) (λ u i rest'. refl) (λ u g. g) (law.swap front t rest o d);
}

pub placed_none : {A : Type 0} {words : Bool} {place : Place} {wide : Form Tok A} {f : Reader Tok A} → Exchanging words wide f → Swapping words place wide f
placed_none {place = place} law = placed_too place (λ front v. absurd v) law

-- what never ends behind `<` may as well
pub loosely : {A : Type 0} {words : Bool} {place : Place} {wide : Form Tok A} {f : Reader Tok A} → Swapping words place wide f → Swaps words true place wide f
loosely law = record { sound = law.sound; placed = law.placed; local = law.local; some = law.some; closed = λ front rest a d q. refl; swap = law.swap }

-- what never ends so may as well
pub loosened : {A : Type 0} {wide : Form Tok A} {f : Reader Tok A} → Exchanges wide f → Exchanging true wide f
loosened {wide = wide} {f = f} law = record {
  sound = law.sound;
  placed = law.placed;
  local = law.local;
  some = law.some;
  closed = law.closed;
  swap = λ front t rest o d. outcome_too false true nowhere nowhere wide wide f f (is_angled front) front front t.kind o (λ e. absurd (differ e)) (λ v. v) (λ u i rest'. refl) (λ u g. g) (law.swap front t rest o d);
}

pub tight : {A : Type 0} {words : Bool} {wide : Form Tok A} {f : Reader Tok A} → Exchanges wide f → Exchanging words wide f
tight {words = true} law = loosened law
tight {words = false} law = law

-- ---- choices by classes

is_false : (b : Bool) → (b ≡ true → ⊥) → b ≡ false
is_false true never = absurd (never refl)
is_false false never = refl

-- no class is of two sets that share none
pub apart : (xs bs : List ℕ) → disjoint xs bs ≡ true → (n : ℕ) → contains xs n ≡ true → contains bs n ≡ false
apart xs bs d n e = is_false (contains bs n) (λ q. apart_from xs bs d n e q)

and_parts : (a b : Bool) → a && b ≡ true → (a ≡ true) × (b ≡ true)
and_parts true b h = (refl, h)
and_parts false b h = absurd cc

-- all that one of this class stands for are of these classes with it, or none
abbrev pub fair_at : List ℕ → TokenKind → Bool
fair_at bs h = cond (contains bs (number h)) (subset (stands_for false h) bs) (disjoint (stands_for false h) bs)

-- but for `target`
abbrev pub nearly_fair : List ℕ → Bool
nearly_fair bs = fair_at bs kinds.RefusedType && (fair_at bs kinds.RegisterInteger && (fair_at bs kinds.NumberedGlobal && fair_at bs kinds.NumberedDefinition))

abbrev pub fair : List ℕ → Bool
fair bs = fair_at bs kinds.Target && nearly_fair bs

any_test : (b : Bool) → cond b true true ≡ true
any_test true = refl
any_test false = refl

parts : (bs : List ℕ) → nearly_fair bs ≡ true → (fair_at bs kinds.RefusedType ≡ true) × (fair_at bs kinds.RegisterInteger ≡ true) × (fair_at bs kinds.NumberedGlobal ≡ true) × (fair_at bs kinds.NumberedDefinition ≡ true)
parts bs e =
    let one = and_parts (fair_at bs kinds.RefusedType) (fair_at bs kinds.RegisterInteger && (fair_at bs kinds.NumberedGlobal && fair_at bs kinds.NumberedDefinition)) e in
    let two = and_parts (fair_at bs kinds.RegisterInteger) (fair_at bs kinds.NumberedGlobal && fair_at bs kinds.NumberedDefinition) one.1 in
    let three = and_parts (fair_at bs kinds.NumberedGlobal) (fair_at bs kinds.NumberedDefinition) two.1 in
    (one.0, two.0, three.0, three.1)

-- strings are
strings_fair : (bs : List ℕ) → fair_at bs kinds.Str ≡ true
strings_fair bs = by_test (contains bs (number kinds.Str))
  where
    by_test : (b : Bool) → cond b (b && true) (not b && true) ≡ true
    by_test true = refl
    by_test false = refl

pub fair_but : (bs : List ℕ) → nearly_fair bs ≡ true → (h : TokenKind) → is_target h ≡ false → fair_at bs h ≡ true
unfolding is_target
fair_but bs e kinds.RefusedType n = (parts bs e).0
fair_but bs e kinds.RegisterInteger n = (parts bs e).1
fair_but bs e kinds.NumberedGlobal n = (parts bs e).2
fair_but bs e kinds.NumberedDefinition n = (parts bs e).3
fair_but bs e kinds.Str n = strings_fair bs
fair_but bs e kinds.Target n = absurd cc
fair_but bs e h n = any_test (contains bs (number h))

pub fair_of : (bs : List ℕ) → fair bs ≡ true → (h : TokenKind) → fair_at bs h ≡ true
unfolding is_target
fair_of bs e h = by_test (is_target h) refl
  where
    target_is : (k : TokenKind) → is_target k ≡ true → fair_at bs k ≡ true
    target_is kinds.Target q = (and_parts (fair_at bs kinds.Target) (nearly_fair bs) e).0
    target_is k q = absurd (differ q)

    by_test : (b : Bool) → is_target h ≡ b → fair_at bs h ≡ true
    by_test true q = target_is h q
    by_test false q = fair_but bs (and_parts (fair_at bs kinds.Target) (nearly_fair bs) e).1 h q

-- so a choice by these classes is the same
pub alike : (bs : List ℕ) (h : TokenKind) → fair_at bs h ≡ true → (u : Tok) → among tokens (stands_for false h) u ≡ true → among tokens bs u ≡ contains bs (number h)
alike bs h e u i = by_test (contains bs (number h)) refl e
  where
    by_test : (b : Bool) → contains bs (number h) ≡ b → cond b (subset (stands_for false h) bs) (disjoint (stands_for false h) bs) ≡ true → among tokens bs u ≡ b
    by_test true q s = within_of (stands_for false h) bs s (number u.kind) i
    by_test false q s = apart (stands_for false h) bs s (number u.kind) i

pub word_at : (G : Tok → Type 0) (h : TokenKind) → is_target h ≡ true → (w : Tok) → among tokens WORD w ≡ true → G w → WordGoes h G
unfolding is_target
word_at G kinds.Target e w i g = (w, i, g)
word_at G h e w i g = absurd (differ e)

-- where these classes don't keep together what stands for one another, a plain word begins one of them, and no other reader tells
-- `target`; or no other ends at it
abbrev pub Turns : {A : Type 0} → Bool → List ℕ → Form Tok A → Reader Tok A → Type 0
Turns {A} words bs wide f' =
    (fair bs ≡ true) ⊎ ((nearly_fair bs ≡ true) × (contains bs (number kinds.Target) ≡ false)
    × (((words ≡ true) × (w : Tok) × (among tokens WORD w ≡ true) × Goes wide [] w × ((t : Tok) (rest : List Tok) → is_target t.kind ≡ true → f' (t ∷ rest) ≡ fault_at Profile (t ∷ rest) → ⊥)) ⊎ ((t : Tok) (rest : List Tok) (o : Result A TokenFault) → is_target t.kind ≡ true → f' (t ∷ rest) ≡ ends o (t ∷ rest) → ⊥)))

pub target_apart : (bs : List ℕ) (h : TokenKind) → contains bs (number kinds.Target) ≡ false → is_target h ≡ true → contains bs (number h) ≡ false
unfolding is_target
target_apart bs kinds.Target n e = n
target_apart bs h n e = absurd (differ e)

pub taken_first : {A : Type 0} (bs : List ℕ) (f g : Reader Tok A) (t : Tok) (ts : List Tok) → among tokens bs t ≡ true → pick (among tokens bs) f g (t ∷ ts) ≡ f (t ∷ ts)
taken_first bs f g t ts e = rw e refl

pub passed : {A : Type 0} (bs : List ℕ) (f g : Reader Tok A) (t : Tok) (ts : List Tok) → among tokens bs t ≡ false → pick (among tokens bs) f g (t ∷ ts) ≡ g (t ∷ ts)
passed bs f g t ts e = rw e refl

module _ {A : Type 0} {wide wide' : Form Tok A} {f f' : Reader Tok A} {words loose : Bool} {one_place other_place : Place} (place : Place) (bs : List ℕ) (turns : Turns words bs wide f') (law : Swaps words loose one_place wide f) (law' : Swaps words loose other_place wide' f')
    (within_one : (front : List Tok) → one_place front tt → place front tt) (within_other : (front : List Tok) → other_place front tt → place front tt) where
  abbrev one_of_two : Reader Tok A
  one_of_two = pick (among tokens bs) f f'

  abbrev of_two : Form Tok A
  of_two = form.either wide wide'

  goes_one : (front : List Tok) (u : Tok) → Goes wide front u → Goes of_two front u
  unfolding form.either
  goes_one front u (more, a, s, r) = (more, a, inl s, r)

  goes_other : (front : List Tok) (u : Tok) → Goes wide' front u → Goes of_two front u
  unfolding form.either
  goes_other front u (more, a, s, r) = (more, a, inr s, r)

  sound_alt : (ts rest : List Tok) (a : A) → one_of_two ts ≡ reads a rest → (front : List Tok) × (ts ≡ front ++ rest) × of_two front a
  unfolding form.either
  sound_alt [] rest a e = let s = law'.sound [] rest a e in (s.0, s.1, inr s.2)
  sound_alt (t ∷ ts) rest a e = by_test (among tokens bs t) e
    where
      by_test : (b : Bool) → cond b (f (t ∷ ts)) (f' (t ∷ ts)) ≡ reads a rest → (front : List Tok) × (t ∷ ts ≡ front ++ rest) × (wide front a ⊎ wide' front a)
      by_test true d = let s = law.sound (t ∷ ts) rest a d in (s.0, s.1, inl s.2)
      by_test false d = let s = law'.sound (t ∷ ts) rest a d in (s.0, s.1, inr s.2)

  placed_alt : (ts : List Tok) (e : Fault) → one_of_two ts ≡ wrong e → (front : List Tok) × (rest : List Tok) × (ts ≡ front ++ rest) × (length rest ≡ e.left)
  placed_alt [] e d = law'.placed [] e d
  placed_alt (t ∷ ts) e d = by_test (among tokens bs t) d
    where
      by_test : (b : Bool) → cond b (f (t ∷ ts)) (f' (t ∷ ts)) ≡ wrong e → (front : List Tok) × (rest : List Tok) × (t ∷ ts ≡ front ++ rest) × (length rest ≡ e.left)
      by_test true d = law.placed (t ∷ ts) e d
      by_test false d = law'.placed (t ∷ ts) e d

  local_alt : (front : List Tok) (t : Tok) (rest rest' : List Tok) (o : Result A TokenFault) → one_of_two (front ++ t ∷ rest) ≡ ends o (t ∷ rest) → one_of_two (front ++ t ∷ rest') ≡ ends o (t ∷ rest')
  local_alt [] t rest rest' o d = by_test (among tokens bs t) d
    where
      by_test : (b : Bool) → cond b (f (t ∷ rest)) (f' (t ∷ rest)) ≡ ends o (t ∷ rest) → cond b (f (t ∷ rest')) (f' (t ∷ rest')) ≡ ends o (t ∷ rest')
      by_test true d = law.local [] t rest rest' o d
      by_test false d = law'.local [] t rest rest' o d
  local_alt (u ∷ front) t rest rest' o d = by_test (among tokens bs u) d
    where
      by_test : (b : Bool) → cond b (f (u ∷ (front ++ t ∷ rest))) (f' (u ∷ (front ++ t ∷ rest))) ≡ ends o (t ∷ rest) → cond b (f (u ∷ (front ++ t ∷ rest'))) (f' (u ∷ (front ++ t ∷ rest'))) ≡ ends o (t ∷ rest')
      by_test true d = law.local (u ∷ front) t rest rest' o d
      by_test false d = law'.local (u ∷ front) t rest rest' o d

  -- the first token chooses, and it is the same for all that it stands for
  swap_fair : (t : Tok) (rest : List Tok) (o : Result A TokenFault) → fair_at bs t.kind ≡ true → one_of_two (t ∷ rest) ≡ ends o (t ∷ rest) → Outcome words place of_two one_of_two [] t.kind o
  swap_fair t rest o e d = by_test (among tokens bs t) refl d
    where
      by_test : (b : Bool) → among tokens bs t ≡ b → cond b (f (t ∷ rest)) (f' (t ∷ rest)) ≡ ends o (t ∷ rest) → Outcome words place of_two one_of_two [] t.kind o
      by_test true q d = outcome_too words words one_place place wide of_two f one_of_two false [] [] t.kind o (λ e. e) (within_one []) (λ u i rest'. sym (taken_first bs f f' u rest' (alike bs t.kind e u i ∙ q))) (λ u g. goes_one [] u g) (law.swap [] t rest o d)
      by_test false q d = outcome_too words words other_place place wide' of_two f' one_of_two false [] [] t.kind o (λ e. e) (within_other []) (λ u i rest'. sym (passed bs f f' u rest' (alike bs t.kind e u i ∙ q))) (λ u g. goes_other [] u g) (law'.swap [] t rest o d)

  -- at `target`, where a word goes on
  swap_word : words ≡ true → (h : TokenKind) (o : Result A TokenFault) → WordGoes h (Goes of_two []) → (o ≡ Err Profile → ⊥) → Outcome words place of_two one_of_two [] h o
  swap_word e h (Ok a) w n = inr (e, w)
  swap_word e h (Err Syntax) w n = word_not_told false h (Stuck one_of_two []) (Goes of_two []) (place [] tt) w
  swap_word e h (Err Profile) w n = absurd (n refl)
  swap_word e h (Err Number) w n = tt
  swap_word e h (Err Limit) w n = tt

  is_other : (t : Tok) (rest : List Tok) → contains bs (number kinds.Target) ≡ false → is_target t.kind ≡ true → one_of_two (t ∷ rest) ≡ f' (t ∷ rest)
  is_other t rest n q = passed bs f f' t rest (target_apart bs t.kind n q)

  swap_here : Turns words bs wide f' → (t : Tok) (rest : List Tok) (o : Result A TokenFault) → one_of_two (t ∷ rest) ≡ ends o (t ∷ rest) → Outcome words place of_two one_of_two [] t.kind o
  swap_here (inl e) t rest o d = swap_fair t rest o (fair_of bs e t.kind) d
  swap_here (inr (e, n, turn)) t rest o d = by_test (is_target t.kind) refl
    where
      by_turn : is_target t.kind ≡ true → ((words ≡ true) × (w : Tok) × (among tokens WORD w ≡ true) × Goes wide [] w × ((t : Tok) (rest : List Tok) → is_target t.kind ≡ true → f' (t ∷ rest) ≡ fault_at Profile (t ∷ rest) → ⊥)) ⊎ ((t : Tok) (rest : List Tok) (o : Result A TokenFault) → is_target t.kind ≡ true → f' (t ∷ rest) ≡ ends o (t ∷ rest) → ⊥) → Outcome words place of_two one_of_two [] t.kind o
      by_turn q (inl (v, w, i, g, quiet)) = swap_word v t.kind o (word_at (Goes of_two []) t.kind q w i (goes_one [] w g)) (λ p. quiet t rest q (sym (is_other t rest n q) ∙ d ∙ ap (λ (x : Result A TokenFault). ends x (t ∷ rest)) p))
      by_turn q (inr never) = absurd (never t rest o q (sym (is_other t rest n q) ∙ d))

      by_test : (b : Bool) → is_target t.kind ≡ b → Outcome words place of_two one_of_two [] t.kind o
      by_test true q = by_turn q turn
      by_test false q = swap_fair t rest o (fair_but bs e t.kind q) d

  swap_alt : (front : List Tok) (t : Tok) (rest : List Tok) (o : Result A TokenFault) → one_of_two (front ++ t ∷ rest) ≡ ends o (t ∷ rest) → Outcome words place of_two one_of_two front t.kind o
  swap_alt [] t rest o d = swap_here turns t rest o d
  swap_alt (v ∷ front) t rest o d = by_test (among tokens bs v) refl d
    where
      by_test : (b : Bool) → among tokens bs v ≡ b → cond b (f (v ∷ (front ++ t ∷ rest))) (f' (v ∷ (front ++ t ∷ rest))) ≡ ends o (t ∷ rest) → Outcome words place of_two one_of_two (v ∷ front) t.kind o
      by_test true q d = outcome_too words words one_place place wide of_two f one_of_two (is_angled (v ∷ front)) (v ∷ front) (v ∷ front) t.kind o (λ e. e) (within_one (v ∷ front)) (λ u i rest'. sym (taken_first bs f f' v (front ++ u ∷ rest') q)) (λ u g. goes_one (v ∷ front) u g) (law.swap (v ∷ front) t rest o d)
      by_test false q d = outcome_too words words other_place place wide' of_two f' one_of_two (is_angled (v ∷ front)) (v ∷ front) (v ∷ front) t.kind o (λ e. e) (within_other (v ∷ front)) (λ u i rest'. sym (passed bs f f' v (front ++ u ∷ rest') q)) (λ u g. goes_other (v ∷ front) u g) (law'.swap (v ∷ front) t rest o d)

  closed_alt : (front rest : List Tok) (a : A) → one_of_two (front ++ rest) ≡ reads a rest → is_angled front ≡ true → loose ≡ true
  closed_alt [] rest a d q = absurd (differ q)
  closed_alt (v ∷ front) rest a d q = by_test (among tokens bs v) d
    where
      by_test : (b : Bool) → cond b (f (v ∷ (front ++ rest))) (f' (v ∷ (front ++ rest))) ≡ reads a rest → loose ≡ true
      by_test true d = law.closed (v ∷ front) rest a d q
      by_test false d = law'.closed (v ∷ front) rest a d q

  pub alt_by : Swaps words loose place of_two one_of_two
  unfolding form.either
  alt_by = record {
    sound = sound_alt;
    placed = placed_alt;
    local = local_alt;
    some = (law.some.0, law.some.1, inl law.some.2, law.some.3);
    closed = closed_alt;
    swap = swap_alt;
  }

pub alt : {A : Type 0} {words : Bool} {wide wide' : Form Tok A} {f f' : Reader Tok A} (bs : List ℕ) → fair bs ≡ true → Exchanging words wide f → Exchanging words wide' f' → Exchanging words (form.either wide wide') (pick (among tokens bs) f f')
alt bs e law law' = alt_by nowhere bs (inl e) law law' (λ front v. v) (λ front v. v)

pub alt_loosely : {A : Type 0} {wide wide' : Form Tok A} {f f' : Reader Tok A} (bs : List ℕ) → fair bs ≡ true → Swaps false true nowhere wide f → Swaps false true nowhere wide' f' → Swaps false true nowhere (form.either wide wide') (pick (among tokens bs) f f')
alt_loosely bs e law law' = alt_by nowhere bs (inl e) law law' (λ front v. v) (λ front v. v)

pub maybe : {A : Type 0} {wide : Form Tok A} {f : Reader Tok A} (bs : List ℕ) → fair bs ≡ true → Exchanges wide f → Exchanges (form.optional wide) (optional_at (among tokens bs) f)
maybe bs e law = alt bs e (seq law (λ a. nothing (Some a))) (nothing None)

-- ---- a limit

limit_ends : {A : Type 0} (front : List Tok) (t : Tok) (rest : List Tok) (o : Result A TokenFault) → fault_at Limit (front ++ t ∷ rest) ≡ ends o (t ∷ rest) → (front ≡ []) × (o ≡ Err Limit)
limit_ends front t rest (Ok a) d = absurd cc
limit_ends [] t rest (Err k) d = (refl, sym (ap (λ (x : Fault). Err x.kind) (wrong_is (record { left = length (t ∷ rest); kind = Limit }) (record { left = length (t ∷ rest); kind = k }) d)))
limit_ends (u ∷ us) t rest (Err k) d = absurd (omega (arith, ap (λ (x : Fault). x.left) (wrong_is (record { left = length (u ∷ (us ++ t ∷ rest)); kind = Limit }) (record { left = length (t ∷ rest); kind = k }) d), length-append us (t ∷ rest)))

limited : {A : Type 0} {words loose : Bool} {place : Place} (wide : Form Tok A) → (ts : List Tok) × (a : A) × wide ts a × AllReal tokens ts → Swaps words loose place wide (fault_at Limit)
limited {A} {words} {loose} {place} wide some = record {
  sound = λ ts rest a e. absurd cc;
  placed = λ ts e d. ([], ts, refl, ap (λ (x : Fault). x.left) (wrong_is (record { left = length ts; kind = Limit }) e d));
  local = λ front t rest rest' o d. let h = limit_ends front t rest o d in rw (h.0, h.1) refl;
  some = some;
  closed = λ front rest a d q. absurd cc;
  swap = λ front t rest o d. subst (λ (x : Result A TokenFault). Outcome words place wide (fault_at Limit) front t.kind x) (sym (limit_ends front t rest o d).1) tt;
}

either_same : {A : Type 0} (wide : Form Tok A) (ts : List Tok) (a : A) → form.either wide wide ts a → wide ts a
unfolding form.either
either_same wide ts a (inl s) = s
either_same wide ts a (inr s) = s

-- a limit at one of these tokens
pub barred : {A : Type 0} {wide : Form Tok A} {f : Reader Tok A} (bs : List ℕ) → fair bs ≡ true → Exchanges wide f → Exchanges wide (pick (among tokens bs) (fault_at Limit) f)
barred {wide = wide} bs e law = recast (either_same wide) (alt bs e (limited wide law.some) law)

-- ---- as many as there are, or up to a limit

-- what a list of values ended with, without its first
abbrev pub in_front : {A : Type 0} → A → Result (List A × List Tok) Fault → Result (List A × List Tok) Fault
in_front a r = follow r (λ m. done (a ∷ m))

abbrev pub joined : {A : Type 0} → A → Result (List A) TokenFault → Result (List A) TokenFault
joined a (Ok m) = Ok (a ∷ m)
joined a (Err k) = Err k

pub ends_in_front : {A : Type 0} (a : A) (o : Result (List A) TokenFault) (us : List Tok) → in_front a (ends o us) ≡ ends (joined a o) us
ends_in_front a (Ok m) us = refl
ends_in_front a (Err k) us = refl

pub without : {A : Type 0} (a : A) (r : Result (List A × List Tok) Fault) (o : Result (List A) TokenFault) (us : List Tok) → in_front a r ≡ ends o us → (o' : Result (List A) TokenFault) × (r ≡ ends o' us) × (o ≡ joined a o')
without a (Ok y) (Ok v) us h =
    let e = reads_is (a ∷ y.0) v y.1 us h in
    (Ok y.0, ap (λ (x : List Tok). reads y.0 x) e.1, ap (λ (x : List _). Ok x) (sym e.0))
without a (Ok y) (Err k) us h = absurd cc
without a (Err e) (Ok v) us h = absurd cc
without a (Err e) (Err k) us h = (Err k, h, refl)

-- behind a first piece fewer tokens stand before the same rest
pub fewer : (front us p q r : List Tok) → p ≢ [] → front ++ us ≡ p ++ (q ++ r) → length r ≡ length us → (r ≡ us) × (length q < length front)
fewer front us [] q r n e l = absurd (n refl)
fewer front us (v ∷ p) q r n e l =
    let c = cut_is front us (v ∷ (p ++ q)) r (e ∙ sym (append_assoc (v ∷ p) q r)) (sym l) in
    (sym c.1, omega (arith, ap length c.0, length-append p q))

-- what begins one of them, where it may be followed by a plain word and not by `target`
abbrev pub Begins : {A : Type 0} → Bool → List ℕ → Form Tok A → Type 0
Begins words bs wide = (fair bs ≡ true) ⊎ ((nearly_fair bs ≡ true) × (words ≡ true) × (w : Tok) × (among tokens WORD w ≡ true) × Goes wide [] w)

module _ {A : Type 0} {words : Bool} (wide : Form Tok A) (f : Reader Tok A) (bs : List ℕ) {one_place : Place} (place : Place) (within_first : (front : List Tok) → one_place front tt → place front tt) (within_further : (one two : List Tok) (a : A) → wide one a → place two tt → place (one ++ two) tt)
    (begins : Begins words bs wide) (outside : words ≡ true → contains bs (number kinds.Target) ≡ false) (law : Swapping words one_place wide f) where
  abbrev one_more : Form Tok (List A)
  one_more = form.◌>>=◌ wide (λ a. form.◌>>=◌ (Star wide) (λ more. form.gives (a ∷ more)))

  none_is : (ts : List Tok) (as' : List A) → form.gives [] ts as' → Star wide ts as'
  none_is ts as' n = subst (λ (x : List A). Star wide ts x) (sym n.1) n.0

  over : (ts : List Tok) (as' : List A) → form.either one_more (form.gives []) ts as' → Star wide ts as'
  unfolding form.either form.◌>>=◌
  over ts as' (inl (p, q, a, e, s, (q', r, l, e', s', n))) =
      let whole : ts ≡ p ++ q' = e ∙ ap (λ (x : List Tok). p ++ x) (e' ∙ ap (λ (x : List Tok). q' ++ x) n.0 ∙ append-nil q') in
      subst (λ (x : List A). Star wide ts x) (sym n.1) (p, q', whole, s, s')
  over ts as' (inr n) = none_is ts as' n

  one_star : (ts : List Tok) (a : A) → wide ts a → Star wide ts (a ∷ [])
  one_star ts a s = (ts, [], sym (append-nil ts), s, refl)

  never_told : {B : Type 0} (b : B) (t : Tok) (rest : List Tok) → reads b (t ∷ rest) ≡ fault_at Profile (t ∷ rest) → ⊥
  never_told b t rest d = cc

  star_turns : Begins words bs wide → Turns words bs (Star wide) (done [])
  star_turns (inl e) = inl e
  star_turns (inr (e, v, w, i, g)) = inr (e, outside v, inl (v, w, i, (g.0, g.1 ∷ [], one_star (w ∷ g.0) g.1 g.2, g.3), λ t rest _ d. never_told [] t rest d))

  more_turns : Begins words bs wide → Turns words bs one_more (done [])
  unfolding form.◌>>=◌
  more_turns (inl e) = inl e
  more_turns (inr (e, v, w, i, g)) = inr (e, outside v, inl (v, w, i, (g.0, g.1 ∷ [], (w ∷ g.0, [], g.1, sym (append-nil (w ∷ g.0)), g.2, ([], [], [], refl, refl, (refl, refl))), g.3), λ t rest _ d. never_told [] t rest d))

  none_at : (room : ℕ) (t : Tok) (rest : List Tok) → contains bs (number t.kind) ≡ false → many_at (among tokens bs) f room (t ∷ rest) ≡ reads [] (t ∷ rest)
  none_at zero t rest e = rw e refl
  none_at (suc room) t rest e = rw e refl

  follows_one : (room : ℕ) → words ≡ true → (a : A) (t : Tok) (rest : List Tok) (o : Result (List A) TokenFault) → is_target t.kind ≡ true → (many_at (among tokens bs) f room >>= λ more. done (a ∷ more)) (t ∷ rest) ≡ ends o (t ∷ rest) → MayFollow words o
  follows_one room v a t rest o q d = subst (λ (b : Bool). MayFollow b o) (sym v) (valued_end (a ∷ []) (t ∷ rest) o (sym (ap (λ (r : Result (List A × List Tok) Fault). follow r (λ more. done (a ∷ more))) (none_at room t rest (target_apart bs t.kind (outside v) q))) ∙ d))

  follows_all : words ≡ true → (more : List A) (a : A) (t : Tok) (rest : List Tok) (o : Result (List A) TokenFault) → reads (a ∷ more) (t ∷ rest) ≡ ends o (t ∷ rest) → MayFollow words o
  follows_all v more a t rest o d = subst (λ (b : Bool). MayFollow b o) (sym v) (valued_end (a ∷ more) (t ∷ rest) o d)

  at_none : (front : List Tok) → nowhere front tt → place front tt
  at_none front v = absurd v

  pub many : (room : ℕ) → Swapping words place (Star wide) (many_at (among tokens bs) f room)
  many zero = recast (either_same (Star wide)) (alt_by place bs (star_turns begins) (limited {place = place} (Star wide) ([], [], refl, tt)) (recast none_is (tight (nothing []))) (λ front v. v) at_none)
  many (suc room) =
      recast over (alt_by place bs (more_turns begins)
      (seq_by words false place law (λ a. seq_by words false place (many room) (λ more. tight (nothing (a ∷ more))) (λ e. e) (λ e a b w. e) (λ e. e) (λ e. absurd (differ e)) (λ front v. v) (λ one two a s v. absurd v) (λ v more t rest o q d. follows_all v more a t rest o d)) (λ e. e) (λ e a b w. e) (λ e. e) (λ e. absurd (differ e)) within_first within_further (λ v a t rest o q d. follows_one room v a t rest o q d))
      (tight (nothing [])) (λ front v. v) at_none)

  module _ (some : (a : A) → wide [] a → ⊥) where
    abbrev at_most : ℕ → Reader Tok (List A)
    at_most = many_at (among tokens bs) f

    not_nil : (p : List Tok) (a : A) → wide p a → p ≢ []
    not_nil p a s e = some a (subst (λ (y : List Tok). wide y a) e s)

    -- with more room than stands before it, a reading that ends here ends so with any such room
    enough : (n m : ℕ) (ts front us : List Tok) (o : Result (List A) TokenFault) → ts ≡ front ++ us → length front < n → length front < m → at_most n ts ≡ ends o us → at_most m ts ≡ ends o us
    enough zero m ts front us o w i j d = absurd (omega (arith, i))
    enough (suc n) zero ts front us o w i j d = absurd (omega (arith, j))
    enough (suc n) (suc m) [] front us o w i j d = d
    enough (suc n) (suc m) (t ∷ ts) front us o w i j d = by_test (λ left before o' w' i' j' d'. enough n m left before us o' w' i' j' d') (among tokens bs t) d
      where
        Again : Type 0
        Again = (left before : List Tok) (o' : Result (List A) TokenFault) → left ≡ before ++ us → length before < n → length before < m → at_most n left ≡ ends o' us → at_most m left ≡ ends o' us

        by_more : Again → (x : A × List Tok) → f (t ∷ ts) ≡ reads x.0 x.1 → in_front x.0 (at_most n x.1) ≡ ends o us → in_front x.0 (at_most m x.1) ≡ ends o us
        by_more again x e d =
            let w' = without x.0 (at_most n x.1) o us d in
            let p = law.sound (t ∷ ts) x.1 x.0 e in
            let q = placed_of (many n) x.1 us w'.0 w'.1 in
            let c = fewer front us p.0 q.0 q.1 (not_nil p.0 x.0 p.2) (sym w ∙ p.1 ∙ ap (λ (y : List Tok). p.0 ++ y) q.2) q.3 in
            let two : at_most m x.1 ≡ ends w'.0 us = again x.1 q.0 w'.0 (q.2 ∙ ap (λ (y : List Tok). q.0 ++ y) c.0) (omega (arith, i, c.1)) (omega (arith, j, c.1)) w'.1 in
            ap (in_front x.0) two ∙ ends_in_front x.0 w'.0 us ∙ ap (λ (y : Result (List A) TokenFault). ends y us) (sym w'.2)

        by_piece : Again → (r : Result (A × List Tok) Fault) → f (t ∷ ts) ≡ r → follow r (λ a. at_most n >>= λ more. done (a ∷ more)) ≡ ends o us → follow r (λ a. at_most m >>= λ more. done (a ∷ more)) ≡ ends o us
        by_piece again (Err e) q d = d
        by_piece again (Ok x) q d = by_more again x q d

        by_test : Again → (b : Bool) → cond b ((f >>= λ a. at_most n >>= λ more. done (a ∷ more)) (t ∷ ts)) (reads {A = List A} [] (t ∷ ts)) ≡ ends o us → cond b ((f >>= λ a. at_most m >>= λ more. done (a ∷ more)) (t ∷ ts)) (reads {A = List A} [] (t ∷ ts)) ≡ ends o us
        by_test again true d = by_piece again (f (t ∷ ts)) refl d
        by_test again false d = d

    abbrev all_at : Reader Tok (List A)
    all_at = star_at (among tokens bs) f

    enough_for : (front : List Tok) (n : ℕ) → length front < n → (u : Tok) (rest : List Tok) (o : Result (List A) TokenFault) → at_most n (front ++ u ∷ rest) ≡ ends o (u ∷ rest) → all_at (front ++ u ∷ rest) ≡ ends o (u ∷ rest)
    enough_for front n i u rest o d = enough n (length (front ++ u ∷ rest)) (front ++ u ∷ rest) front (u ∷ rest) o refl i (omega (arith, length-append front (u ∷ rest))) d

    all_is : (front : List Tok) (u : Tok) (rest : List Tok) (o : Result (List A) TokenFault) → all_at (front ++ u ∷ rest) ≡ ends o (u ∷ rest) → at_most (suc (length front)) (front ++ u ∷ rest) ≡ ends o (u ∷ rest)
    all_is front u rest o d = enough (length (front ++ u ∷ rest)) (suc (length front)) (front ++ u ∷ rest) front (u ∷ rest) o refl (omega (arith, length-append front (u ∷ rest))) (omega arith) d

    swap_all : (front : List Tok) (h : TokenKind) (o : Result (List A) TokenFault) → Outcome words place (Star wide) (at_most (suc (length front))) front h o → Outcome words place (Star wide) all_at front h o
    swap_all front h (Ok as') n = ok_too words words place place (Star wide) (Star wide) (at_most (suc (length front))) all_at (is_angled front) front front h (λ e. e) as' as' (λ u i s rest. enough_for front (suc (length front)) (omega arith) u rest (Ok as') (s rest)) (λ u g. g) n
    swap_all front h (Err k) n = err_too words words place place (Star wide) (Star wide) (at_most (suc (length front))) all_at (is_angled front) front front h k (λ v. v) (λ u i s rest. let r = s rest in (r.0, r.1, enough_for front (suc (length front)) (omega arith) u rest (Err r.0) r.2)) (λ u g. g) n

    pub all : Swapping words place (Star wide) all_at
    all = record {
      sound = λ ts rest as' e. (many (length ts)).sound ts rest as' e;
      placed = λ ts e d. (many (length ts)).placed ts e d;
      local = λ front t rest rest' o d. enough_for front (suc (length front)) (omega arith) t rest' o ((many (suc (length front))).local front t rest rest' o (all_is front t rest o d));
      some = ([], [], refl, tt);
      closed = λ front rest as' d q. (many (length (front ++ rest))).closed front rest as' d q;
      swap = λ front t rest o d. swap_all front t.kind o ((many (suc (length front))).swap front t rest o (all_is front t rest o d));
    }

-- as many as there are of what isn't empty
pub star : {A : Type 0} {wide : Form Tok A} {f : Reader Tok A} (bs : List ℕ) → fair bs ≡ true → Exchanges wide f → ((a : A) → wide [] a → ⊥) → Exchanges (Star wide) (star_at (among tokens bs) f)
star {wide = wide} {f = f} bs e law some = all wide f bs nowhere (λ front v. v) (λ one two a s v. v) (inl e) (λ v. absurd (differ v)) law some

-- ---- single tokens

-- what a meaning says at a token of this class
abbrev pub SaysAt : {A : Type 0} → Place → Form Tok A → (Tok → Result A TokenFault) → TokenKind → TokenFault → Type 0
SaysAt place wide meaning h Syntax = NotTold false h (λ u. (k : TokenFault) × (IsBound k → ⊥) × (meaning u ≡ Err k)) (Goes wide []) (place [] tt)
SaysAt place wide meaning h Profile = IsTold false h (λ u. (k : TokenFault) × (IsBound k → ⊥) × (meaning u ≡ Err k)) (Goes wide [])
SaysAt place wide meaning h Number = Unit {0}
SaysAt place wide meaning h Limit = Unit {0}

abbrev pub Says : {A : Type 0} → Form Tok A → (Tok → Result A TokenFault) → TokenKind → TokenFault → Type 0
Says wide meaning h k = SaysAt nowhere wide meaning h k

module _ {A : Type 0} (loose : Bool) (place : Place) (wide : Form Tok A) (meaning : Tok → Result A TokenFault) (refuses : (t : Tok) (a : A) → among tokens OPEN_ANGLE t ≡ true → meaning t ≡ Ok a → loose ≡ true) (right : (t : Tok) (a : A) → meaning t ≡ Ok a → wide (t ∷ []) a) (some : (ts : List Tok) × (a : A) × wide ts a × AllReal tokens ts) (says : (t : Tok) (k : TokenFault) → meaning t ≡ Err k → SaysAt place wide meaning t.kind k) where
  sound_means : (t : Tok) (ts rest : List Tok) (a : A) (m : Result A TokenFault) → meaning t ≡ m → token_means t ts m ≡ reads a rest → (front : List Tok) × (t ∷ ts ≡ front ++ rest) × wide front a
  sound_means t ts rest a (Ok b) d e = let h = reads_is b a ts rest e in (t ∷ [], ap (λ (x : List Tok). t ∷ x) h.1, right t a (d ∙ ap (λ (x : A). Ok x) h.0))
  sound_means t ts rest a (Err k) d e = absurd cc

  sound_token : (ts rest : List Tok) (a : A) → token_at meaning ts ≡ reads a rest → (front : List Tok) × (ts ≡ front ++ rest) × wide front a
  sound_token [] rest a e = absurd cc
  sound_token (t ∷ ts) rest a e = sound_means t ts rest a (meaning t) refl e

  placed_means : (t : Tok) (ts : List Tok) (e : Fault) (m : Result A TokenFault) → token_means t ts m ≡ wrong e → (front : List Tok) × (rest : List Tok) × (t ∷ ts ≡ front ++ rest) × (length rest ≡ e.left)
  placed_means t ts e (Ok b) d = absurd cc
  placed_means t ts e (Err k) d = ([], t ∷ ts, refl, ap (λ (x : Fault). x.left) (wrong_is _ e d))

  placed_token : (ts : List Tok) (e : Fault) → token_at meaning ts ≡ wrong e → (front : List Tok) × (rest : List Tok) × (ts ≡ front ++ rest) × (length rest ≡ e.left)
  placed_token [] e d = ([], [], refl, ap (λ (x : Fault). x.left) (wrong_is _ e d))
  placed_token (t ∷ ts) e d = placed_means t ts e (meaning t) d

  -- a fault is at the token, and what is read stands before the next one
  fault_here : (t : Tok) (rest : List Tok) (o m : Result A TokenFault) → token_means t rest m ≡ ends o (t ∷ rest) → (k : TokenFault) × (o ≡ Err k) × (m ≡ Err k)
  fault_here t rest (Ok a) (Ok b) d = absurd (omega (arith, ap length (reads_is b a rest (t ∷ rest) d).1))
  fault_here t rest (Ok a) (Err k) d = absurd cc
  fault_here t rest (Err k) (Ok b) d = absurd cc
  fault_here t rest (Err k) (Err l) d = (k, refl, ap (λ (x : Fault). Err x.kind) (wrong_is (record { left = length (t ∷ rest); kind = l }) (record { left = length (t ∷ rest); kind = k }) d))

  read_before : (v t : Tok) (front rest : List Tok) (o m : Result A TokenFault) → token_means v (front ++ t ∷ rest) m ≡ ends o (t ∷ rest) → (front ≡ []) × (a : A) × (o ≡ Ok a) × (m ≡ Ok a)
  read_before v t front rest (Ok a) (Ok b) d =
      let p = reads_is b a (front ++ t ∷ rest) (t ∷ rest) d in
      ((cut_is front (t ∷ rest) [] (t ∷ rest) p.1 refl).0, a, refl, ap (λ (x : A). Ok x) p.0)
  read_before v t front rest (Ok a) (Err k) d = absurd cc
  read_before v t front rest (Err k) (Ok b) d = absurd cc
  read_before v t front rest (Err k) (Err l) d =
      absurd (omega (arith, ap (λ (x : Fault). x.left) (wrong_is (record { left = length (v ∷ (front ++ t ∷ rest)); kind = l }) (record { left = length (t ∷ rest); kind = k }) d), length-append front (t ∷ rest)))

  local_token : (front : List Tok) (t : Tok) (rest rest' : List Tok) (o : Result A TokenFault) → token_at meaning (front ++ t ∷ rest) ≡ ends o (t ∷ rest) → token_at meaning (front ++ t ∷ rest') ≡ ends o (t ∷ rest')
  local_token [] t rest rest' o d = let h = fault_here t rest o (meaning t) d in ap (token_means t rest') h.2 ∙ ap (λ (x : Result A TokenFault). ends x (t ∷ rest')) (sym h.1)
  local_token (v ∷ front) t rest rest' o d =
      let h = read_before v t front rest o (meaning v) d in
      ap (token_means v (front ++ t ∷ rest')) h.3 ∙ ap (λ (x : List Tok). reads h.1 (x ++ t ∷ rest')) h.0 ∙ ap (λ (x : Result A TokenFault). ends x (t ∷ rest')) (sym h.2)

  by_kind : (h : TokenKind) (k : TokenFault) → SaysAt place wide meaning h k → Outcome false place wide (token_at meaning) [] h (Err k)
  by_kind h Syntax s = not_told_too false h (λ u. (k : TokenFault) × (IsBound k → ⊥) × (meaning u ≡ Err k)) (Stuck (token_at meaning) []) (Goes wide []) (Goes wide []) (place [] tt) (place [] tt) (λ u i r rest. (r.0, r.1, ap (token_means u rest) r.2)) (λ u g. g) (λ v. v) s
  by_kind h Profile s = told_too false h (λ u. (k : TokenFault) × (IsBound k → ⊥) × (meaning u ≡ Err k)) (Stuck (token_at meaning) []) (Goes wide []) (Goes wide []) (λ u i r rest. (r.0, r.1, ap (token_means u rest) r.2)) (λ u g. g) s
  by_kind h Number s = tt
  by_kind h Limit s = tt

  swap_token : (front : List Tok) (t : Tok) (rest : List Tok) (o : Result A TokenFault) → token_at meaning (front ++ t ∷ rest) ≡ ends o (t ∷ rest) → Outcome false place wide (token_at meaning) front t.kind o
  swap_token [] t rest o d =
      let h = fault_here t rest o (meaning t) d in
      subst (λ (x : Result A TokenFault). Outcome false place wide (token_at meaning) [] t.kind x) (sym h.1) (by_kind t.kind h.0 (says t h.0 h.2))
  swap_token (v ∷ front) t rest o d =
      let h = read_before v t front rest o (meaning v) d in
      subst (λ (x : Result A TokenFault). Outcome false place wide (token_at meaning) (v ∷ front) t.kind x) (sym h.2) (inl (λ u i rest'. ap (token_means v (front ++ u ∷ rest')) h.3 ∙ ap (λ (x : List Tok). reads h.1 (x ++ u ∷ rest')) h.0))

  closed_token : (front rest : List Tok) (a : A) → token_at meaning (front ++ rest) ≡ reads a rest → is_angled front ≡ true → loose ≡ true
  closed_token [] rest a d q = absurd (differ q)
  closed_token (v ∷ front) rest a d q = by_meaning (meaning v) refl d
    where
      by_front : (front : List Tok) → front ≡ [] → is_angled (v ∷ front) ≡ true → meaning v ≡ Ok a → loose ≡ true
      by_front [] n q e = refuses v a q e
      by_front (u ∷ us) n q e = absurd cc

      by_meaning : (m : Result A TokenFault) → meaning v ≡ m → token_means v (front ++ rest) m ≡ reads a rest → loose ≡ true
      by_meaning (Ok b) e d = let p = reads_is b a (front ++ rest) rest d in by_front front (cut_is front rest [] rest p.1 refl).0 q (e ∙ ap (λ (x : A). Ok x) p.0)
      by_meaning (Err k) e d = absurd cc

  pub single_at : Swaps false loose place wide (token_at meaning)
  single_at = record { sound = sound_token; placed = placed_token; local = local_token; some = some; closed = closed_token; swap = swap_token }

pub single : {A : Type 0} (wide : Form Tok A) (meaning : Tok → Result A TokenFault) → ((t : Tok) (a : A) → among tokens OPEN_ANGLE t ≡ true → meaning t ≡ Ok a → ⊥) → ((t : Tok) (a : A) → meaning t ≡ Ok a → wide (t ∷ []) a) → (ts : List Tok) × (a : A) × wide ts a × AllReal tokens ts → ((t : Tok) (k : TokenFault) → meaning t ≡ Err k → Says wide meaning t.kind k) → Exchanges wide (token_at meaning)
single wide meaning refuses right some says = single_at false nowhere wide meaning (λ t a i e. absurd (refuses t a i e)) right some says

-- ---- what may end anywhere, but at none that is left out only in some places

-- those that stand for others
abbrev pub STAND_INS : List ℕ
STAND_INS = number kinds.RefusedType ∷ number kinds.Target ∷ number kinds.RegisterInteger ∷ number kinds.NumberedGlobal ∷ number kinds.NumberedDefinition ∷ []

abbrev pub SOMEWHERE : List ℕ
SOMEWHERE = number kinds.LifetimeMarker ∷ STAND_INS

-- or stand for a string
abbrev pub TELLING : List ℕ
TELLING = number kinds.Str ∷ SOMEWHERE

-- or behind `<`
abbrev pub STEADY : List ℕ
STEADY = number kinds.Number ∷ TELLING

module _ {A : Type 0} {g wide : Form Tok A} {f : Reader Tok A} {xs : List ℕ} {e : Bool} (rule : Rule tokens g wide f xs [] e) (never : (front : List Tok) (t : Tok) (rest : List Tok) (k : TokenFault) → f (front ++ t ∷ rest) ≡ fault_at k (t ∷ rest) → contains STEADY (number t.kind) ≡ true → ⊥) where
  stuck_nowhere : (h : TokenKind) (k : TokenFault) (angled : Bool) (front : List Tok) → (contains STEADY (number h) ≡ true → ⊥) → OutcomeAt false nowhere wide f angled front h (Err k)
  stuck_nowhere h Number angled front n = tt
  stuck_nowhere h Limit angled front n = tt
  stuck_nowhere kinds.RefusedType k angled front n = absurd (n refl)
  stuck_nowhere kinds.Target k angled front n = absurd (n refl)
  stuck_nowhere kinds.RegisterInteger k angled front n = absurd (n refl)
  stuck_nowhere kinds.NumberedGlobal k angled front n = absurd (n refl)
  stuck_nowhere kinds.NumberedDefinition k angled front n = absurd (n refl)
  stuck_nowhere kinds.LifetimeMarker k angled front n = absurd (n refl)
  stuck_nowhere kinds.Str k angled front n = absurd (n refl)
  stuck_nowhere kinds.Number k angled front n = absurd (n refl)
  stuck_nowhere h Syntax angled front n = tt
  stuck_nowhere h Profile angled front n = tt

  pub ends_anywhere : (angled : Bool) (front : List Tok) (t : Tok) (rest : List Tok) (o : Result A TokenFault) → f (front ++ t ∷ rest) ≡ ends o (t ∷ rest) → OutcomeAt false nowhere wide f angled front t.kind o
  ends_anywhere angled front t rest (Ok a) d =
      let s = rule.law.sound (front ++ t ∷ rest) (t ∷ rest) a d in
      let same = cut_is front (t ∷ rest) s.0 (t ∷ rest) s.1 refl in
      inl (λ u i rest'. ap (λ (y : List Tok). f (y ++ u ∷ rest')) same.0 ∙ rule.law.complete s.0 (u ∷ rest') a s.2 refl)
  ends_anywhere angled front t rest (Err k) d = stuck_nowhere t.kind k angled front (λ p. never front t rest k d p)

  pub anywhere : {loose : Bool} → ((front rest : List Tok) (a : A) → f (front ++ rest) ≡ reads a rest → is_angled front ≡ true → loose ≡ true) → Swaps false loose nowhere wide f
  anywhere closed = of_rule rule closed (λ front t rest o d. ends_anywhere (is_angled front) front t rest o d)

-- at most so many
pub up_to : {A : Type 0} {wide : Form Tok A} {f : Reader Tok A} (bs : List ℕ) → fair bs ≡ true → Exchanges wide f → (room : ℕ) → Exchanges (Star wide) (many_at (among tokens bs) f room)
up_to {wide = wide} {f = f} bs e law room = many wide f bs nowhere (λ front v. v) (λ one two a s v. v) (inl e) (λ v. absurd (differ v)) law room

-- of what may end where a plain word goes on
pub up_to_words : {A : Type 0} {one_place : Place} (place : Place) {wide : Form Tok A} {f : Reader Tok A} (bs : List ℕ) → fair bs ≡ true → contains bs (number kinds.Target) ≡ false → ((front : List Tok) → one_place front tt → place front tt) → ((one two : List Tok) (a : A) → wide one a → place two tt → place (one ++ two) tt) → Swapping true one_place wide f → (room : ℕ)
    → Swapping true place (Star wide) (many_at (among tokens bs) f room)
up_to_words place {wide = wide} {f = f} bs e n first further law room = many wide f bs place first further (inl e) (λ _. n) law room

-- a reader that gives the same
pub same_reader : {A : Type 0} {words loose : Bool} {place : Place} {wide : Form Tok A} {f f' : Reader Tok A} → ((ts : List Tok) → f ts ≡ f' ts) → Swaps words loose place wide f → Swaps words loose place wide f'
same_reader {words = words} {place = place} {wide = wide} {f = f} {f' = f'} same law = record {
  sound = λ ts rest a e. law.sound ts rest a (same ts ∙ e);
  placed = λ ts e d. law.placed ts e (same ts ∙ d);
  local = λ front t rest rest' o d. sym (same (front ++ t ∷ rest')) ∙ law.local front t rest rest' o (same (front ++ t ∷ rest) ∙ d);
  some = law.some;
  closed = λ front rest a d q. law.closed front rest a (same (front ++ rest) ∙ d) q;
  swap = λ front t rest o d. outcome_too words words place place wide wide f f' (is_angled front) front front t.kind o (λ e. e) (λ v. v) (λ u i rest'. same (front ++ u ∷ rest')) (λ u g. g) (law.swap front t rest o (same (front ++ t ∷ rest) ∙ d));
}

-- what begins with a token isn't empty
pub token_begins : {A B : Type 0} (meaning : Tok → Result A TokenFault) (k : A → Form Tok B) (b : B) → form.◌>>=◌ (form.token meaning) k [] b → ⊥
unfolding form.◌>>=◌
token_begins meaning k b ([], back, a, e, s, r) = s
token_begins meaning k b (t ∷ front, back, a, e, s, r) = absurd cc

-- a limit, or else it, by a test
pub tested : {A : Type 0} {loose : Bool} {place : Place} {wide : Form Tok A} {f : Reader Tok A} (b : Bool) → Swaps false loose place wide f → Swaps false loose place wide (cond b (fault_at Limit) f)
tested true law = limited _ law.some
tested false law = law

-- what a reader takes alone goes on
pub goes_alone : {A : Type 0} {wide : Form Tok A} {f : Reader Tok A} → Exchanges wide f → (w : Tok) → IsReal w → (a : A) → f (w ∷ []) ≡ reads a [] → Goes wide [] w
goes_alone {wide = wide} law w r a e = let s = law.sound (w ∷ []) [] a e in ([], a, subst (λ (y : List Tok). wide y a) (sym (s.1 ∙ append-nil s.0)) s.2, (r, tt))

-- as many as there are, of which a plain word begins one
pub star_words : {A : Type 0} {wide : Form Tok A} {f : Reader Tok A} (bs : List ℕ) → nearly_fair bs ≡ true → (w : Tok) → among tokens WORD w ≡ true → Goes wide [] w → contains bs (number kinds.Target) ≡ false → Exchanges wide f → ((a : A) → wide [] a → ⊥) → Exchanging true (Star wide) (star_at (among tokens bs) f)
star_words {wide = wide} {f = f} bs e w i g n law some = all wide f bs nowhere (λ front v. v) (λ one two a s v. v) (inr (e, refl, w, i, g)) (λ _. n) (loosened law) some
