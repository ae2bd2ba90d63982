-- Readers whose first fault is of a kind that the token at which it stands allows. The ways of putting readers together keep that.
use Rattle.std.proofs.Common.{◌≡◌, ℕ, zero, suc, ◌<◌, Bool, true, false, true≢false, cond, Option, Some, None, ◌&&◌, ◌||◌, not, List, [], ◌∷◌, ◌++◌, length, Result, Ok, Err, refl, sym, ap, subst, ◌∙◌, ◌⊎◌, inl, inr, arith, nat_eq}
use Rattle.std.proofs.lemmas.List.{append-nil, append_assoc, length-append}
use Rattle.ir_lex.specs.declared.token_kind.TokenKind.TheVariants as kinds
use Rattle.ir_lex.specs.declared.token_kind.TokenKind.{TokenKind}
use Rattle.ir_lex.specs.TokenKinds.{number}
use Rattle.ir_lex.specs.Rows.{begins as begins_by}
use Rattle.ir_lex.specs.Tok.{Tok}
use Rattle.ir_parse_parts.specs.declared.fault.Fault.{Fault}
use Rattle.ir_parse_parts.specs.declared.fault.TokenFault.{TokenFault}
use Rattle.ir_parse_parts.specs.declared.fault.TokenFault.TheVariants.{Syntax, Profile, Number, Limit}
use Rattle.ir_parse_parts.specs.Alphabet.{among, contains}
use Rattle.ir_parse_parts.specs.Balanced.{Brackets, Move, opens, closes, stays, moved, none_open}
use Rattle.ir_parse_parts.specs.Balanced as balanced
use Rattle.ir_parse_parts.specs.Chained.{stops_here, chain_within, chain_at}
use Rattle.ir_parse_parts.specs.Forms.{Form}
use Rattle.ir_parse_parts.specs.Readers.{Reader, fault_at, done, follow, ◌>>=◌, token_means, token_at, pick, many_at, star_at, optional_at}
use Rattle.ir_parse_parts.specs.Rules.{Rule, disjoint, subset, in_range, is_class, is_among, is_exact, is_valued}
use Rattle.ir_parse_parts.specs.Runs.{Step, bad, last, onward, run_at}
use Rattle.ir_parse_parts.proofs.Rules.{apart_from, within_of}
use Rattle.ir_parse_parts.specs.Brackets.{brackets, opening, move_of, group_at}
use Rattle.ir_parse_parts.specs.Classes.{tokens, REFUSED, refusal, the_at, one_of_at}
use Rattle.ir_parse_parts.specs.Decimals.{ALIGNMENTS, alignment_of, decimal, is_alignment}
use Rattle.ir_parse_heads.specs.FunctionHeads.{NUMBERED, name_refusal}
use Rattle.ir_parse_parts.specs.Metadata.{ended_by, line_step, open_behind}
use Rattle.ir_parse_parts.specs.Operands.{REFUSED_TYPES, memory_refusal, type_refusal}
use Rattle.ir_parse_operands.specs.ShapeForms.{OPEN_ANGLE, angle_refusal}
use Rattle.ir_parse_operands.specs.ShapeFormsAt.{brace_behind_angle_at}
use Rattle.ir_parse_parts.specs.declared.brackets.Bracket.{Bracket}
use Rattle.ir_parse.specs.Refusals.{BeginsVector, INTEGER, MARKER, REFUSED_EVERYWHERE, TARGET, TYPE, last_is}

-- what is left out in some places
abbrev pub REFUSED_SOMEWHERE : List ℕ
REFUSED_SOMEWHERE = MARKER ++ (TYPE ++ (TARGET ++ (INTEGER ++ NUMBERED)))

-- what is told to be left out is one of these; at a string, a data layout is told not to be supported
abbrev pub MAY : List ℕ
MAY = number kinds.Str ∷ (REFUSED_EVERYWHERE ++ REFUSED_SOMEWHERE)

last_of : (p : Tok → Bool) (before : List Tok) (t : Tok) → p t ≡ true → last_is p (before ++ t ∷ []) ≡ true
last_of p [] t h = h
last_of p (u ∷ []) t h = h
last_of p (u ∷ v ∷ us) t h = last_of p (v ∷ us) t h

-- a token of this class may be refused for this
abbrev pub Allowed : ℕ → TokenFault → Type 0
Allowed class Syntax = contains REFUSED_EVERYWHERE class ≡ false
Allowed class Profile = contains MAY class ≡ true
Allowed class Number = contains REFUSED_EVERYWHERE class ≡ false
Allowed class Limit = contains REFUSED_EVERYWHERE class ≡ false

-- and a number directly behind `<`
abbrev pub AllowedAt : List Tok → List Tok → TokenFault → Type 0
AllowedAt before [] kind = Unit {0}
AllowedAt before (t ∷ ts) kind = Allowed (number t.kind) kind ⊎ BeginsVector before t

-- what reading gives: the tokens that are left are the last ones, or the fault is one that the next token allows
abbrev pub Fits : {A : Type 0} → List Tok → List Tok → Result (A × List Tok) Fault → Type 0
Fits before ts (Ok x) = (front : List Tok) × (ts ≡ front ++ x.1)
Fits before ts (Err e) = (front : List Tok) × (rest : List Tok) × (ts ≡ front ++ rest) × (length rest ≡ e.left) × AllowedAt (before ++ front) rest e.kind

-- of all tokens, whatever stands before them
pub record Tells {A : Type 0} (f : Reader Tok A) : Type 0 where
  pub each : (before ts : List Tok) → Fits before ts (f ts)

-- of those that stand directly behind a token of these classes
pub record TellsBehind {A : Type 0} (classes : List ℕ) (f : Reader Tok A) : Type 0 where
  pub each : (before ts : List Tok) → last_is (among tokens classes) before ≡ true → Fits before ts (f ts)

-- at the first token
here : (before : List Tok) (t : Tok) (ts : List Tok) (kind : TokenFault) → Allowed (number t.kind) kind
    → (front : List Tok) × (rest : List Tok) × (t ∷ ts ≡ front ++ rest) × (length rest ≡ length (t ∷ ts)) × AllowedAt (before ++ front) rest kind
here before t ts kind k = ([], t ∷ ts, refl, refl, inl k)

is_false : (b : Bool) → (b ≡ true → ⊥) → b ≡ false
is_false true never = absurd (never refl)
is_false false never = refl

-- no token of these classes is refused everywhere
pub never_among : (bs : List ℕ) → disjoint bs REFUSED_EVERYWHERE ≡ true → (t : Tok) → among tokens bs t ≡ true → contains REFUSED_EVERYWHERE (number t.kind) ≡ false
never_among bs d t p = is_false (contains REFUSED_EVERYWHERE (number t.kind)) (λ q. apart_from bs REFUSED_EVERYWHERE d (number t.kind) p q)

-- ---- ways of putting readers together

shift : {A : Type 0} (before front ts mid : List Tok) (r : Result (A × List Tok) Fault) → ts ≡ front ++ mid → Fits (before ++ front) mid r → Fits before ts r
shift before front ts mid (Ok x) e (f, e') = (front ++ f, e ∙ (ap (λ (z : List Tok). front ++ z) e' ∙ sym (append_assoc front f x.1)))
shift before front ts mid (Err d) e (f, rest, e', l, k) =
    (front ++ f, rest, e ∙ (ap (λ (z : List Tok). front ++ z) e' ∙ sym (append_assoc front f rest)), l, subst (λ (z : List Tok). AllowedAt z rest d.kind) (append_assoc before front f) k)

behind : {A B : Type 0} (before ts : List Tok) (r : Result (A × List Tok) Fault) (h : A → Reader Tok B) → Fits before ts r → ((a : A) → Tells (h a)) → Fits before ts (follow r h)
behind before ts (Ok x) h (f, e) m = shift before f ts x.1 (h x.0 x.1) e ((m x.0).each (before ++ f) x.1)
behind before ts (Err d) h p m = p

pub seq : {A B : Type 0} {f : Reader Tok A} {h : A → Reader Tok B} → Tells f → ((a : A) → Tells (h a)) → Tells (f >>= h)
seq {f = f} {h = h} l m = record { each = λ before ts. behind before ts (f ts) h (l.each before ts) m }

pub seq_behind : {A B : Type 0} {f : Reader Tok A} {h : A → Reader Tok B} (classes : List ℕ) → TellsBehind classes f → ((a : A) → Tells (h a)) → TellsBehind classes (f >>= h)
seq_behind {f = f} {h = h} classes l m = record { each = λ before ts there. behind before ts (f ts) h (l.each before ts there) m }

pub nothing : {A : Type 0} (a : A) → Tells (done a)
nothing a = record { each = λ before ts. ([], refl) }

pub alt : {A : Type 0} {f g : Reader Tok A} (begins : Tok → Bool) → Tells f → Tells g → Tells (pick begins f g)
alt {f = f} {g = g} begins l m = record { each = by }
  where
    by_test : (before : List Tok) (b : Bool) (ts : List Tok) → Fits before ts (cond b (f ts) (g ts))
    by_test before true ts = l.each before ts
    by_test before false ts = m.each before ts

    by : (before ts : List Tok) → Fits before ts (pick begins f g ts)
    by before [] = m.each before []
    by before (t ∷ ts) = by_test before (begins t) (t ∷ ts)

-- a limit at one of these tokens
pub barred : {A : Type 0} {f : Reader Tok A} (bs : List ℕ) → disjoint bs REFUSED_EVERYWHERE ≡ true → Tells f → Tells (pick (among tokens bs) (fault_at Limit) f)
barred {f = f} bs d l = record { each = by }
  where
    by_test : (before : List Tok) (t : Tok) (ts : List Tok) (b : Bool) → among tokens bs t ≡ b → Fits before (t ∷ ts) (cond b (fault_at Limit (t ∷ ts)) (f (t ∷ ts)))
    by_test before t ts true p = here before t ts Limit (never_among bs d t p)
    by_test before t ts false p = l.each before (t ∷ ts)

    by : (before ts : List Tok) → Fits before ts (pick (among tokens bs) (fault_at Limit) f ts)
    by before [] = l.each before []
    by before (t ∷ ts) = by_test before t ts (among tokens bs t) refl

pub many : {A : Type 0} {f : Reader Tok A} (bs : List ℕ) → disjoint bs REFUSED_EVERYWHERE ≡ true → Tells f → (room : ℕ) → Tells (many_at (among tokens bs) f room)
many bs d l zero = barred bs d (nothing [])
many bs d l (suc room) = alt (among tokens bs) (seq l (λ a. seq (many bs d l room) (λ more. nothing (a ∷ more)))) (nothing [])

pub star : {A : Type 0} {f : Reader Tok A} (bs : List ℕ) → disjoint bs REFUSED_EVERYWHERE ≡ true → Tells f → Tells (star_at (among tokens bs) f)
star bs d l = record { each = λ before ts. (many bs d l (length ts)).each before ts }

pub maybe : {A : Type 0} {f : Reader Tok A} (begins : Tok → Bool) → Tells f → Tells (optional_at begins f)
maybe begins l = alt begins (seq l (λ a. nothing (Some a))) (nothing None)

-- ---- single tokens

abbrev pub AllowedBy : {A : Type 0} → Tok → Result A TokenFault → Type 0
AllowedBy t (Ok a) = Unit {0}
AllowedBy t (Err kind) = Allowed (number t.kind) kind

pub single : {A : Type 0} (meaning : Tok → Result A TokenFault) → ((t : Tok) → AllowedBy t (meaning t)) → Tells (token_at meaning)
single {A} meaning fits = record { each = by }
  where
    by_meaning : (before : List Tok) (t : Tok) (ts : List Tok) (m : Result A TokenFault) → AllowedBy t m → Fits before (t ∷ ts) (token_means t ts m)
    by_meaning before t ts (Ok a) k = (t ∷ [], refl)
    by_meaning before t ts (Err kind) k = here before t ts kind k

    by : (before ts : List Tok) → Fits before ts (token_at meaning ts)
    by before [] = ([], [], refl, refl, tt)
    by before (t ∷ ts) = by_meaning before t ts (meaning t) (fits t)

-- each class is refused for what it allows
abbrev pub Refuses : (ℕ → TokenFault) → Type 0
Refuses refusal = (n : ℕ) → Allowed n (refusal n)

test : {A : Type 0} (t : Tok) (b : Bool) (a : A) (kind : TokenFault) → Allowed (number t.kind) kind → AllowedBy t (cond b (Ok a) (Err kind))
test t true a kind k = tt
test t false a kind k = k

pub class : (refusal : ℕ → TokenFault) → Refuses refusal → (wanted : ℕ) → Tells (token_at (is_class tokens refusal wanted))
unfolding is_class
class refusal r wanted = single (is_class tokens refusal wanted) (λ t. test t (nat_eq (number t.kind) wanted) tt (refusal (number t.kind)) (r (number t.kind)))

pub one : {A : Type 0} (refusal : ℕ → TokenFault) → Refuses refusal → (wanted : List ℕ) (value : Tok → A) → Tells (token_at (is_among tokens refusal wanted value))
unfolding is_among
one refusal r wanted value = single (is_among tokens refusal wanted value) (λ t. test t (among tokens wanted t) (value t) (refusal (number t.kind)) (r (number t.kind)))

pub exact : {A : Type 0} (refusal : ℕ → TokenFault) → Refuses refusal → (wanted : List ℕ) (passes : Tok → Bool) (value : Tok → A) → Tells (token_at (is_exact tokens refusal wanted passes value))
unfolding is_exact
exact refusal r wanted passes value = single (is_exact tokens refusal wanted passes value) (λ t. test t (among tokens wanted t && passes t) (value t) (refusal (number t.kind)) (r (number t.kind)))

pub value_allowed : {A : Type 0} (refusal : ℕ → TokenFault) → Refuses refusal → (wanted : List ℕ) → disjoint wanted REFUSED_EVERYWHERE ≡ true → (value : Tok → Option A) (t : Tok) → AllowedBy t (is_valued tokens refusal wanted value t)
unfolding is_valued
value_allowed {A} refusal r wanted d value t = by_test (among tokens wanted t) refl
  where
    by_value : (o : Option A) → contains REFUSED_EVERYWHERE (number t.kind) ≡ false → AllowedBy t (in_range o)
    by_value None n = n
    by_value (Some a) n = tt

    by_test : (b : Bool) → among tokens wanted t ≡ b → AllowedBy t (cond b (in_range (value t)) (Err (refusal (number t.kind))))
    by_test true p = by_value (value t) (never_among wanted d t p)
    by_test false p = r (number t.kind)

pub valued : {A : Type 0} (refusal : ℕ → TokenFault) → Refuses refusal → (wanted : List ℕ) → disjoint wanted REFUSED_EVERYWHERE ≡ true → (value : Tok → Option A) → Tells (token_at (is_valued tokens refusal wanted value))
valued refusal r wanted d value = single (is_valued tokens refusal wanted value) (value_allowed refusal r wanted d value)

-- ---- readers that take a token at least

abbrev Shorter : {A : Type 0} → List Tok → Result (A × List Tok) Fault → Type 0
Shorter ts (Ok x) = length x.1 < length ts
Shorter ts (Err e) = Unit {0}

pub record Takes {A : Type 0} (f : Reader Tok A) : Type 0 where
  pub some : (ts : List Tok) → Shorter ts (f ts)

pub takes_token : {A : Type 0} (meaning : Tok → Result A TokenFault) → Takes (token_at meaning)
takes_token {A} meaning = record { some = by }
  where
    by_meaning : (t : Tok) (ts : List Tok) (m : Result A TokenFault) → Shorter (t ∷ ts) (token_means t ts m)
    by_meaning t ts (Ok a) = omega arith
    by_meaning t ts (Err kind) = tt

    by : (ts : List Tok) → Shorter ts (token_at meaning ts)
    by [] = tt
    by (t ∷ ts) = by_meaning t ts (meaning t)

pub takes_first : {A B : Type 0} {f : Reader Tok A} {h : A → Reader Tok B} → Takes f → ((a : A) → Tells (h a)) → Takes (f >>= h)
takes_first {A} {B} {f} {h} l m = record { some = λ ts. by_first ts (f ts) (l.some ts) }
  where
    by_second : (ts mid : List Tok) (r : Result (B × List Tok) Fault) → length mid < length ts → Fits [] mid r → Shorter ts r
    by_second ts mid (Ok y) s (front, e) = omega (arith, s, ap length e, length-append front y.1)
    by_second ts mid (Err d) s p = tt

    by_first : (ts : List Tok) (r : Result (A × List Tok) Fault) → Shorter ts r → Shorter ts (follow r h)
    by_first ts (Ok x) s = by_second ts x.1 (h x.0 x.1) s ((m x.0).each [] x.1)
    by_first ts (Err d) s = tt

pub takes_either : {A : Type 0} {f g : Reader Tok A} (begins : Tok → Bool) → Takes f → Takes g → Takes (pick begins f g)
takes_either {f = f} {g = g} begins l m = record { some = by }
  where
    by_test : (b : Bool) (ts : List Tok) → Shorter ts (cond b (f ts) (g ts))
    by_test true ts = l.some ts
    by_test false ts = m.some ts

    by : (ts : List Tok) → Shorter ts (pick begins f g ts)
    by [] = m.some []
    by (t ∷ ts) = by_test (begins t) (t ∷ ts)

-- what reads a form that isn't empty takes a token
pub takes_of : {A : Type 0} {g wide : Form Tok A} {f : Reader Tok A} {first more : List ℕ} → Rule tokens g wide f first more false → Takes f
takes_of {A} {g} {f = f} rule = record { some = λ ts. by_result ts (f ts) refl }
  where
    never : false ≡ true → ⊥
    never e = cc e

    by_front : (ts front rest : List Tok) (a : A) → ts ≡ front ++ rest → g front a → length rest < length ts
    by_front ts [] rest a e s = absurd (never (rule.law.nothing a s))
    by_front ts (t ∷ front) rest a e s = omega (arith, ap length e, length-append (t ∷ front) rest)

    by_result : (ts : List Tok) (r : Result (A × List Tok) Fault) → f ts ≡ r → Shorter ts r
    by_result ts (Ok x) e = let s = rule.law.sound ts x.1 x.0 e in by_front ts s.0 x.1 x.0 s.1 s.2
    by_result ts (Err d) e = tt

-- ---- pieces one behind another, each of which takes a token

-- a piece, and behind it a list of more
behind_piece : {A : Type 0} (before front ts mid : List Tok) (x : A) → ts ≡ front ++ mid → (r : Result (List A × List Tok) Fault) → Fits (before ++ front) mid r → Fits before ts (follow r (λ more. done (x ∷ more)))
behind_piece before front ts mid x e (Ok y) (f, e') = (front ++ f, e ∙ (ap (λ (z : List Tok). front ++ z) e' ∙ sym (append_assoc front f y.1)))
behind_piece before front ts mid x e (Err d) (f, rest, e', l, k) =
    (front ++ f, rest, e ∙ (ap (λ (z : List Tok). front ++ z) e' ∙ sym (append_assoc front f rest)), l, subst (λ (z : List Tok). AllowedAt z rest d.kind) (append_assoc before front f) k)

module _ {S A : Type 0} (final : S → Bool) (begins : S → Tok → Bool) {one_at : S → Reader Tok (A × S)} (tells : (s : S) → Tells (one_at s)) (takes : (s : S) → Takes (one_at s)) where
  within : (room : ℕ) (s : S) (before ts : List Tok) → length ts < room → Fits before ts (chain_within final begins one_at room s ts)
  within zero s before ts small = absurd (omega arith)
  within (suc room) s before ts small = by_stop (λ next behind mid short. within room next behind mid short) (stops_here final begins s ts)
    where
      Again : Type 0
      Again = (next : S) (behind mid : List Tok) → length mid < room → Fits behind mid (chain_within final begins one_at room next mid)

      by_piece : Again → (r : Result ((A × S) × List Tok) Fault) → Fits before ts r → Shorter ts r → Fits before ts (follow r (λ x. chain_within final begins one_at room x.1 >>= λ more. done (x.0 ∷ more)))
      by_piece again (Ok y) (front, e) s' = behind_piece before front ts y.1 y.0.0 e (chain_within final begins one_at room y.0.1 y.1) (again y.0.1 (before ++ front) y.1 (omega (arith, small, s')))
      by_piece again (Err d) p s' = p

      by_stop : Again → (b : Bool) → Fits before ts (cond b (done [] ts) ((one_at s >>= λ x. chain_within final begins one_at room x.1 >>= λ more. done (x.0 ∷ more)) ts))
      by_stop again true = ([], refl)
      by_stop again false = by_piece again (one_at s ts) ((tells s).each before ts) ((takes s).some ts)

  pub chain : (s : S) → Tells (chain_at final begins one_at s)
  chain s = record { each = λ before ts. within (suc (length ts)) s before ts (omega arith) }

module _ {A : Type 0} (begins : Tok → Bool) {one_at : Reader Tok A} (tells : Tells one_at) (takes : Takes one_at) where
  many_within : (room : ℕ) (before ts : List Tok) → length ts < suc room → Fits before ts (many_at begins one_at room ts)
  many_within zero before [] small = ([], refl)
  many_within zero before (t ∷ ts) small = absurd (omega arith)
  many_within (suc room) before [] small = ([], refl)
  many_within (suc room) before (t ∷ ts) small = by_test (λ behind mid short. many_within room behind mid short) (begins t)
    where
      Again : Type 0
      Again = (behind mid : List Tok) → length mid < suc room → Fits behind mid (many_at begins one_at room mid)

      by_piece : Again → (r : Result (A × List Tok) Fault) → Fits before (t ∷ ts) r → Shorter (t ∷ ts) r → Fits before (t ∷ ts) (follow r (λ a. many_at begins one_at room >>= λ more. done (a ∷ more)))
      by_piece again (Ok y) (front, e) s = behind_piece before front (t ∷ ts) y.1 y.0 e (many_at begins one_at room y.1) (again (before ++ front) y.1 (omega (arith, small, s)))
      by_piece again (Err d) p s = p

      by_test : Again → (b : Bool) → Fits before (t ∷ ts) (cond b ((one_at >>= λ a. many_at begins one_at room >>= λ more. done (a ∷ more)) (t ∷ ts)) (done [] (t ∷ ts)))
      by_test again true = by_piece again (one_at (t ∷ ts)) (tells.each before (t ∷ ts)) (takes.some (t ∷ ts))
      by_test again false = ([], refl)

  -- any number, whatever they begin with
  pub any : Tells (star_at begins one_at)
  any = record { each = λ before ts. many_within (length ts) before ts (omega arith) }

-- ---- tokens one by one

pub run : {S : Type 0} (step : S → Tok → Step S) → ((s : S) (t : Tok) → step s t ≡ bad → contains REFUSED_EVERYWHERE (number t.kind) ≡ false) → (s : S) → Tells (run_at step s)
run {S} step fits s = record { each = λ before ts. by s before ts }
  where
    read : Step S → Tok → List Tok → Result (Unit {0} × List Tok) Fault
    read p t ts = elim p as (λ x. Result (Unit {0} × List Tok) Fault) [ bad ↦ fault_at Syntax (t ∷ ts) | last ↦ Ok (tt, ts) | onward next ↦ run_at step next ts ]

    by_step : (s : S) (before : List Tok) (t : Tok) (ts : List Tok) (p : Step S) → step s t ≡ p → ((next : S) → Fits (before ++ t ∷ []) ts (run_at step next ts)) → Fits before (t ∷ ts) (read p t ts)
    by_step s before t ts bad e again = here before t ts Syntax (fits s t e)
    by_step s before t ts last e again = (t ∷ [], refl)
    by_step s before t ts (onward next) e again = shift before (t ∷ []) (t ∷ ts) ts (run_at step next ts) refl (again next)

    by : (s : S) (before ts : List Tok) → Fits before ts (run_at step s ts)
    by s before [] = ([], [], refl, refl, tt)
    by s before (t ∷ ts) = by_step s before t ts (step s t) refl (λ next. by next (before ++ t ∷ []) ts)

pub closing : {B : Type 0} (brackets : Brackets Tok B) → ((t : Tok) (b : B) → brackets.move t ≡ closes b → contains REFUSED_EVERYWHERE (number t.kind) ≡ false) → (open_ones : List B) → Tells (balanced.closing_at brackets open_ones)
closing {B} brackets fits open_ones = record { each = λ before ts. by open_ones before ts }
  where
    read : Option (List B) → Tok → List Tok → Result (Unit {0} × List Tok) Fault
    read o t ts = elim o as (λ x. Result (Unit {0} × List Tok) Fault) [ None ↦ fault_at Syntax (t ∷ ts) | Some stack ↦ balanced.closing_at brackets stack ts ]

    by_stack : (before : List Tok) (t : Tok) (ts : List Tok) (o : Option (List B)) → (o ≡ None → contains REFUSED_EVERYWHERE (number t.kind) ≡ false) → ((stack : List B) → Fits (before ++ t ∷ []) ts (balanced.closing_at brackets stack ts)) → Fits before (t ∷ ts) (read o t ts)
    by_stack before t ts None n again = here before t ts Syntax (n refl)
    by_stack before t ts (Some stack) n again = shift before (t ∷ []) (t ∷ ts) ts (balanced.closing_at brackets stack ts) refl (again stack)

    none_moved : (t : Tok) (b : B) (bs : List B) (m : Move B) → brackets.move t ≡ m → moved brackets m b bs ≡ None → contains REFUSED_EVERYWHERE (number t.kind) ≡ false
    none_moved t b bs (opens c) e n = absurd (cc n)
    none_moved t b bs (closes c) e n = fits t c e
    none_moved t b bs stays e n = absurd (cc n)

    by : (open_ones : List B) (before ts : List Tok) → Fits before ts (balanced.closing_at brackets open_ones ts)
    by [] before ts = ([], refl)
    by (b ∷ bs) before [] = ([], [], refl, refl, tt)
    by (b ∷ bs) before (t ∷ ts) = by_stack before t ts (moved brackets (brackets.move t) b bs) (none_moved t b bs (brackets.move t) refl) (λ stack. by stack (before ++ t ∷ []) ts)

-- ---- this grammar's own

pub first_true : (a b : Bool) → a && b ≡ true → a ≡ true
first_true true b h = refl
first_true false b h = absurd cc

-- a set of this one class
alone : (n class : ℕ) → nat_eq n class ≡ true → contains (class ∷ []) n ≡ true
alone n class e = ap (λ (b : Bool). b || false) e

pub may_of : (class : ℕ) → contains MAY class ≡ true → (n : ℕ) → nat_eq n class ≡ true → contains MAY n ≡ true
may_of class m n e = within_of (class ∷ []) MAY (ap (λ (b : Bool). b && true) m) n (alone n class e)

pub never_class : (class : ℕ) → disjoint (class ∷ []) REFUSED_EVERYWHERE ≡ true → (n : ℕ) → nat_eq n class ≡ true → contains REFUSED_EVERYWHERE n ≡ false
never_class class d n e = is_false (contains REFUSED_EVERYWHERE n) (λ q. apart_from (class ∷ []) REFUSED_EVERYWHERE d n (alone n class e) q)

-- of these classes what the format leaves out is told
left_out : (xs : List ℕ) → subset xs MAY ≡ true → (n : ℕ) (kind : TokenFault) → Allowed n kind → Allowed n (cond (contains xs n) Profile kind)
left_out xs s n kind k = by_test (contains xs n) refl
  where
    by_test : (b : Bool) → contains xs n ≡ b → Allowed n (cond b Profile kind)
    by_test true p = within_of xs MAY s n p
    by_test false p = k

pub refusal_refuses : Refuses refusal
refusal_refuses n = by_test (contains REFUSED n) refl
  where
    by_test : (b : Bool) → contains REFUSED n ≡ b → Allowed n (cond b Profile Syntax)
    by_test true p = within_of REFUSED MAY refl n p
    by_test false p = is_false (contains REFUSED_EVERYWHERE n) (λ q. true≢false (sym (within_of REFUSED_EVERYWHERE REFUSED refl n q) ∙ p))

pub type_refusal_refuses : Refuses type_refusal
type_refusal_refuses n = left_out REFUSED_TYPES refl n (refusal n) (refusal_refuses n)

pub memory_refusal_refuses : Refuses memory_refusal
memory_refusal_refuses n = by_test (nat_eq n (number kinds.RegisterInteger)) refl
  where
    by_test : (b : Bool) → nat_eq n (number kinds.RegisterInteger) ≡ b → Allowed n (cond b Profile (type_refusal n))
    by_test true e = may_of (number kinds.RegisterInteger) refl n e
    by_test false e = type_refusal_refuses n

pub name_refusal_refuses : Refuses name_refusal
name_refusal_refuses n = left_out NUMBERED refl n (refusal n) (refusal_refuses n)

-- ---- behind `<`

-- a token of this class, and what stands directly behind it
pub behind_class : {B : Type 0} {h : Unit {0} → Reader Tok B} (wanted : TokenKind) → ((u : Unit {0}) → TellsBehind (number wanted ∷ []) (h u)) → Tells (the_at wanted >>= h)
unfolding is_class
behind_class {B} {h} wanted m = record { each = by }
  where
    by_test : (before : List Tok) (t : Tok) (ts : List Tok) (b : Bool) → nat_eq (number t.kind) (number wanted) ≡ b
        → Fits before (t ∷ ts) (follow (token_means t ts (cond b (Ok tt) (Err (refusal (number t.kind))))) h)
    by_test before t ts true e = shift before (t ∷ []) (t ∷ ts) ts (h tt ts) refl ((m tt).each (before ++ t ∷ []) ts (last_of (among tokens (number wanted ∷ [])) before t (alone (number t.kind) (number wanted) e)))
    by_test before t ts false e = here before t ts (refusal (number t.kind)) (refusal_refuses (number t.kind))

    by : (before ts : List Tok) → Fits before ts ((the_at wanted >>= h) ts)
    by before [] = ([], [], refl, refl, tt)
    by before (t ∷ ts) = by_test before t ts (nat_eq (number t.kind) (number wanted)) refl

pub behind_one : {A B : Type 0} {h : A → Reader Tok B} (classes : List ℕ) (value : Tok → A) → ((a : A) → TellsBehind classes (h a)) → Tells (one_of_at classes value >>= h)
unfolding is_among
behind_one {A} {B} {h} classes value m = record { each = by }
  where
    by_test : (before : List Tok) (t : Tok) (ts : List Tok) (b : Bool) → among tokens classes t ≡ b
        → Fits before (t ∷ ts) (follow (token_means t ts (cond b (Ok (value t)) (Err (refusal (number t.kind))))) h)
    by_test before t ts true e = shift before (t ∷ []) (t ∷ ts) ts (h (value t) ts) refl ((m (value t)).each (before ++ t ∷ []) ts (last_of (among tokens classes) before t e))
    by_test before t ts false e = here before t ts (refusal (number t.kind)) (refusal_refuses (number t.kind))

    by : (before ts : List Tok) → Fits before ts ((one_of_at classes value >>= h) ts)
    by before [] = ([], [], refl, refl, tt)
    by before (t ∷ ts) = by_test before t ts (among tokens classes t) refl

abbrev taken : Bool → TokenFault → Result (Unit {0}) TokenFault
taken b kind = cond b (Ok tt) (Err kind)

pub brace_behind_told : TellsBehind OPEN_ANGLE brace_behind_angle_at
unfolding is_class
brace_behind_told = record { each = by }
  where
    by_number : (before : List Tok) (t : Tok) (ts : List Tok) (b : Bool) → nat_eq (number t.kind) (number kinds.Number) ≡ b → last_is (among tokens OPEN_ANGLE) before ≡ true
        → Fits {A = Unit {0}} before (t ∷ ts) (fault_at (cond b Profile (refusal (number t.kind))) (t ∷ ts))
    by_number before t ts true e angle = ([], t ∷ ts, refl, refl, inr (e, subst (λ (z : List Tok). last_is (among tokens OPEN_ANGLE) z ≡ true) (sym (append-nil before)) angle))
    by_number before t ts false e angle = here before t ts (refusal (number t.kind)) (refusal_refuses (number t.kind))

    by_test : (before : List Tok) (t : Tok) (ts : List Tok) (b : Bool) → last_is (among tokens OPEN_ANGLE) before ≡ true → Fits before (t ∷ ts) (token_means t ts (taken b (angle_refusal (number t.kind))))
    by_test before t ts true angle = (t ∷ [], refl)
    by_test before t ts false angle = by_number before t ts (nat_eq (number t.kind) (number kinds.Number)) refl angle

    by : (before ts : List Tok) → last_is (among tokens OPEN_ANGLE) before ≡ true → Fits before ts (brace_behind_angle_at ts)
    by before [] angle = ([], [], refl, refl, tt)
    by before (t ∷ ts) angle = by_test before t ts (nat_eq (number t.kind) (number kinds.OpenBrace)) angle

pub the_told : (wanted : TokenKind) → Tells (the_at wanted)
the_told wanted = class refusal refusal_refuses (number wanted)

pub one_told : {A : Type 0} (classes : List ℕ) (value : Tok → A) → Tells (one_of_at classes value)
one_told classes value = one refusal refusal_refuses classes value

pub is_alignment_allowed : (t : Tok) → AllowedBy t (is_alignment t)
unfolding is_alignment alignment_of
is_alignment_allowed t = by_class (nat_eq (number t.kind) (number kinds.Number)) refl
  where
    by_number : (b : Bool) → nat_eq (number t.kind) (number kinds.Number) ≡ true → AllowedBy t (cond b (Ok (decimal t.text)) (Err Number))
    by_number true e = tt
    by_number false e = never_class (number kinds.Number) refl (number t.kind) e

    by_class : (b : Bool) → nat_eq (number t.kind) (number kinds.Number) ≡ b → AllowedBy t (cond b (cond (contains ALIGNMENTS (decimal t.text) && not (begins_by 45 t.text)) (Ok (decimal t.text)) (Err Number)) (Err (refusal (number t.kind))))
    by_class true e = by_number (contains ALIGNMENTS (decimal t.text) && not (begins_by 45 t.text)) e
    by_class false e = refusal_refuses (number t.kind)

-- ---- brackets

closes_never : (h : TokenKind) (b : Bracket) → move_of h ≡ closes b → contains REFUSED_EVERYWHERE (number h) ≡ false
closes_never kinds.ReservedGlobal b e = absurd (cc e)
closes_never kinds.RefusedMark b e = absurd (cc e)
closes_never kinds.RefusedInteger b e = absurd (cc e)
closes_never kinds.RefusedAttribute b e = absurd (cc e)
closes_never kinds.RefusedWord b e = absurd (cc e)
closes_never h b e = refl

pub group_told : (b : Bracket) → Tells (group_at b)
unfolding group_at
group_told b = seq (the_told (opening b)) (λ _. closing brackets (λ t c e. closes_never t.kind c e) (b ∷ []))

pub line_step_fits : (bs : List Bracket) (t : Tok) → line_step bs t ≡ bad → contains REFUSED_EVERYWHERE (number t.kind) ≡ false
line_step_fits bs t e = by_move (move_of t.kind) refl e
  where
    ended_test : (b : Bool) (cs : List Bracket) → cond b last (onward cs) ≡ bad → ⊥
    ended_test true cs h = cc h
    ended_test false cs h = cc h

    by_move : (m : Move Bracket) → move_of t.kind ≡ m → ended_by t.ends_line (open_behind m bs) ≡ bad → contains REFUSED_EVERYWHERE (number t.kind) ≡ false
    by_move (opens b) d h = absurd (ended_test (t.ends_line && none_open (b ∷ bs)) (b ∷ bs) h)
    by_move (closes b) d h = closes_never t.kind b d
    by_move stays d h = absurd (ended_test (t.ends_line && none_open bs) bs h)

pub run_line_told : (bs : List Bracket) → Tells (run_at line_step bs)
run_line_told bs = run line_step line_step_fits bs
