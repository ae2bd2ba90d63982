-- Tokens behind which each reading refuses a lifetime marker against the syntax, unless it ends at a limit, or the number of a name,
-- before.
use Rattle.std.proofs.Common.{◌≡◌, ℕ, zero, suc, ◌<◌, Bool, true, false, ◌&&◌, not, List, [], ◌∷◌, ◌++◌, length, Result, refl, sym, ap, subst, append_assoc, arith, inl, inr}
use Rattle.std.proofs.lemmas.List.{length-append}
use Rattle.ir_lex.specs.Tok.{Tok}
use Rattle.ir_parse_parts.specs.Alphabet.{among}
use Rattle.ir_parse_parts.specs.Chained.{Chain, chain_within}
use Rattle.ir_parse_parts.specs.Forms.{Form, Star}
use Rattle.ir_parse_parts.specs.Lawful.{Broad, Stops, UpTo}
use Rattle.ir_parse_parts.specs.Readers.{Reader, done, fault_at, follow, ◌>>=◌, many_at, next_is, pick}
use Rattle.ir_parse_parts.specs.Rules.{Rule, disjoint, subset}
use Rattle.ir_parse_parts.specs.declared.fault.Fault.{Fault}
use Rattle.ir_parse_parts.specs.declared.fault.TokenFault.TheVariants.{Syntax, Limit}
use Rattle.ir_parse_parts.proofs.Composed.{bounded_too, follow_up, limit_up}
use Rattle.ir_parse_parts.proofs.Rules.{apart_from, within_of}
use Rattle.ir_parse_parts.specs.Classes.{tokens}
use Rattle.ir_parse_bodies.specs.CallsAt.{MARKER}
use Rattle.ir_parse_bodies.specs.Successive.{successive_at}

-- a reading of these tokens, and a marker behind them, ends at it against the syntax
pub record Leads {A : Type 0} (f : Reader Tok A) (front : List Tok) : Type 0 where
  pub ends : (t : Tok) (rest : List Tok) → among tokens MARKER t ≡ true → UpTo tokens (front ++ t ∷ rest) (f (front ++ t ∷ rest)) (fault_at Syntax (t ∷ rest))

-- these tokens, or the marker, begin with one of these classes
abbrev pub Opening : List ℕ → List Tok → Type 0
Opening bs ts = (t : Tok) (rest : List Tok) → among tokens MARKER t ≡ true → next_is (among tokens bs) (ts ++ t ∷ rest) ≡ true

is_false : (b : Bool) → (b ≡ true → ⊥) → b ≡ false
is_false true never = absurd (never refl)
is_false false never = refl

-- what goes on with none of these stops there
stops : (ms bs : List ℕ) → disjoint ms bs ≡ true → (ts : List Tok) → next_is (among tokens bs) ts ≡ true → Stops (among tokens ms) ts
stops ms bs d [] h = tt
stops ms bs d (t ∷ ts) h = is_false (among tokens ms t) (λ q. apart_from ms bs d (tokens.class t) q h)

stops_nothing : (ts : List Tok) → Stops (among tokens []) ts
stops_nothing [] = tt
stops_nothing (t ∷ ts) = refl

-- f reads what is spelled so, up to a limit, or the number of a name: it begins with one of the classes first, and goes on at one of more
pub record Reading {A : Type 0} (wide : Form Tok A) (f : Reader Tok A) (first more : List ℕ) (empty : Bool) : Type 0 where
  pub broad : Broad tokens wide f (among tokens first) (among tokens more) empty

pub reading : {A : Type 0} {g wide : Form Tok A} {f : Reader Tok A} {xs ms : List ℕ} {empty : Bool} → Rule tokens g wide f xs ms empty → Reading wide f xs ms empty
reading rule = record { broad = rule.law.broad }

-- ---- one behind another

pub first_leads : {A B : Type 0} (f : Reader Tok A) (h : A → Reader Tok B) (front : List Tok) → Leads f front → Leads (f >>= h) front
first_leads {A} f h front leads = record { ends = λ t rest m. by_result t rest (f (front ++ t ∷ rest)) (leads.ends t rest m) }
  where
    by_result : (t : Tok) (rest : List Tok) (r : Result (A × List Tok) Fault) → UpTo tokens (front ++ t ∷ rest) r (fault_at Syntax (t ∷ rest)) → UpTo tokens (front ++ t ∷ rest) (follow r h) (fault_at Syntax (t ∷ rest))
    by_result t rest r (inl e) = inl (ap (λ (x : Result (A × List Tok) Fault). follow x h) e)
    by_result t rest r (inr w) = inr (bounded_too (follow r h) (λ x d. ap (λ (y : Result (A × List Tok) Fault). follow y h) d) w)

module _ {A B : Type 0} {wide : Form Tok A} {f : Reader Tok A} {xs ms : List ℕ} {empty : Bool} (h : A → Reader Tok B) (law : Reading wide f xs ms empty) (one two : List Tok) (a : A) (s : wide one a) (leads : Leads (h a) two) where
  second_leads : ((t : Tok) (rest : List Tok) → among tokens MARKER t ≡ true → Stops (among tokens ms) (two ++ t ∷ rest)) → Leads (f >>= h) (one ++ two)
  second_leads stop = record { ends = λ t rest m. subst (λ (ts : List Tok). UpTo tokens ts ((f >>= h) ts) (fault_at Syntax (t ∷ rest))) (sym (append_assoc one two (t ∷ rest))) (follow_up h one (two ++ t ∷ rest) (f (one ++ (two ++ t ∷ rest))) a (fault_at Syntax (t ∷ rest)) (law.broad.reads one (two ++ t ∷ rest) a s (stop t rest m)) (leads.ends t rest m)) }

  -- behind what may go on, but not with what comes
  pub leads_behind : (bs : List ℕ) → disjoint ms bs ≡ true → Opening bs two → Leads (f >>= h) (one ++ two)
  leads_behind bs d opening = second_leads (λ t rest m. stops ms bs d (two ++ t ∷ rest) (opening t rest m))

-- behind what has an end
pub leads_after : {A B : Type 0} {wide : Form Tok A} {f : Reader Tok A} {xs : List ℕ} {empty : Bool} (h : A → Reader Tok B) → Reading wide f xs [] empty → (one two : List Tok) (a : A) → wide one a → Leads (h a) two → Leads (f >>= h) (one ++ two)
leads_after h law one two a s leads = second_leads h law one two a s leads (λ t rest m. stops_nothing (two ++ t ∷ rest))

-- ---- choices

pub leads_one : {A : Type 0} (bs : List ℕ) (f g : Reader Tok A) (front : List Tok) → Opening bs front → Leads f front → Leads (pick (among tokens bs) f g) front
leads_one bs f g front opening leads = record { ends = λ t rest m. by_tokens t rest (front ++ t ∷ rest) (opening t rest m) (leads.ends t rest m) }
  where
    by_tokens : (t : Tok) (rest ts : List Tok) → next_is (among tokens bs) ts ≡ true → UpTo tokens ts (f ts) (fault_at Syntax (t ∷ rest)) → UpTo tokens ts (pick (among tokens bs) f g ts) (fault_at Syntax (t ∷ rest))
    by_tokens t rest [] h u = absurd cc
    by_tokens t rest (v ∷ vs) h u = rw h u

pub leads_other : {A : Type 0} (bs xs : List ℕ) → disjoint bs xs ≡ true → (f g : Reader Tok A) (front : List Tok) → Opening xs front → Leads g front → Leads (pick (among tokens bs) f g) front
leads_other bs xs d f g front opening leads = record { ends = λ t rest m. by_tokens t rest (front ++ t ∷ rest) (opening t rest m) (leads.ends t rest m) }
  where
    by_tokens : (t : Tok) (rest ts : List Tok) → next_is (among tokens xs) ts ≡ true → UpTo tokens ts (g ts) (fault_at Syntax (t ∷ rest)) → UpTo tokens ts (pick (among tokens bs) f g ts) (fault_at Syntax (t ∷ rest))
    by_tokens t rest [] h u = absurd cc
    by_tokens t rest (v ∷ vs) h u = rw (is_false (among tokens bs v) (λ q. apart_from bs xs d (tokens.class v) q h)) u

-- ---- what it begins with

pub opening_within : (xs bs : List ℕ) → subset xs bs ≡ true → (ts : List Tok) → Opening xs ts → Opening bs ts
opening_within xs bs s ts opening t rest m = by_tokens (ts ++ t ∷ rest) (opening t rest m)
  where
    by_tokens : (us : List Tok) → next_is (among tokens xs) us ≡ true → next_is (among tokens bs) us ≡ true
    by_tokens [] h = h
    by_tokens (v ∷ vs) h = within_of xs bs s (tokens.class v) h

never : false ≡ true → ⊥
never e = cc

-- what isn't empty begins with what begins its form
pub opening_first : {A : Type 0} {wide : Form Tok A} {f : Reader Tok A} {xs ms : List ℕ} → Reading wide f xs ms false → (one two : List Tok) (a : A) → wide one a → Opening xs (one ++ two)
opening_first law [] two a s t rest m = absurd (never (law.broad.nothing a s))
opening_first law (v ∷ one) two a s t rest m = law.broad.starts v one a s

-- what may be empty begins so, or as what stands behind it
pub opening_either : {A : Type 0} {wide : Form Tok A} {f : Reader Tok A} {xs ms : List ℕ} {empty : Bool} → Reading wide f xs ms empty → (bs : List ℕ) → subset xs bs ≡ true → (one two : List Tok) (a : A) → wide one a → Opening bs two → Opening bs (one ++ two)
opening_either law bs i [] two a s opening t rest m = opening t rest m
opening_either {xs = xs} law bs i (v ∷ one) two a s opening t rest m = within_of xs bs i (tokens.class v) (law.broad.starts v one a s)

-- ---- as many as there are

-- one too many is past a limit
no_room : {A : Type 0} (bs : List ℕ) (ts : List Tok) → next_is (among tokens bs) ts ≡ true → (free : Result (List A × List Tok) Fault) → UpTo tokens ts (pick (among tokens bs) (fault_at Limit) (done []) ts) free
no_room bs [] h free = absurd cc
no_room {A} bs (t ∷ ts) h free = rw h (limit_up t ts (fault_at Limit (t ∷ ts)) free refl)

module _ {A : Type 0} {wide : Form Tok A} {f : Reader Tok A} {xs ms : List ℕ} (bs : List ℕ) (law : Reading wide f xs ms false) (within : subset xs bs ≡ true) (apart : disjoint ms bs ≡ true) where
  pub star_opening : (as' : List A) (one two : List Tok) → Star wide one as' → Opening bs two → Opening bs (one ++ two)
  star_opening [] one two s opening = subst (λ (ts : List Tok). Opening bs (ts ++ two)) (sym s) opening
  star_opening (a ∷ as') one two (p, q, e, s, r) opening = subst (λ (ts : List Tok). Opening bs (ts ++ two)) (sym e) (subst (Opening bs) (sym (append_assoc p q two)) (opening_within xs bs within (p ++ (q ++ two)) (opening_first law p (q ++ two) a s)))

  -- so many, and behind them one that leads there
  pub many_leads : (room : ℕ) (as' : List A) (one two : List Tok) → Star wide one as' → Opening bs two → Leads f two → Leads (many_at (among tokens bs) f room) (one ++ two)
  many_leads zero as' one two s opening leads = record { ends = λ t rest m. no_room bs ((one ++ two) ++ t ∷ rest) (star_opening as' one two s opening t rest m) (fault_at Syntax (t ∷ rest)) }
  many_leads (suc room) [] one two s opening leads = subst (λ (ts : List Tok). Leads (many_at (among tokens bs) f (suc room)) (ts ++ two)) (sym s) (leads_one bs _ (done []) two opening (first_leads f _ two leads))
  many_leads (suc room) (a ∷ as') one two (p, q, e, s, r) opening leads =
      let behind : Opening bs (q ++ two) = star_opening as' q two r opening in
      let all : Opening bs (p ++ (q ++ two)) = opening_within xs bs within (p ++ (q ++ two)) (opening_first law p (q ++ two) a s) in
      subst (λ (ts : List Tok). Leads (many_at (among tokens bs) f (suc room)) (ts ++ two)) (sym e) (subst (Leads (many_at (among tokens bs) f (suc room))) (sym (append_assoc p q two))
      (leads_one bs _ (done []) (p ++ (q ++ two)) all (leads_behind _ law p (q ++ two) a s (first_leads (many_at (among tokens bs) f room) _ (q ++ two) (many_leads room as' q two r opening leads)) bs apart behind)))

-- ---- pieces one behind another, up to a limit

module _ {S A : Type 0} {wide : S → Form Tok (A × S)} {f : S → Reader Tok (A × S)} {xs ms : List ℕ} (final : S → Bool) (bs : List ℕ) (laws : (s : S) → Reading (wide s) (f s) xs ms false) (within : subset xs bs ≡ true) (apart : disjoint ms bs ≡ true) where
  pub chain_opening : (s : S) (as' : List A) (one two : List Tok) → Chain final wide s one as' → Opening bs two → Opening bs (one ++ two)
  chain_opening s [] one two r opening = subst (λ (ts : List Tok). Opening bs (ts ++ two)) (sym r.1) opening
  chain_opening s (a ∷ as') one two (p, q, next, e, r, c) opening = subst (λ (ts : List Tok). Opening bs (ts ++ two)) (sym e) (subst (Opening bs) (sym (append_assoc p q two)) (opening_within xs bs within (p ++ (q ++ two)) (opening_first (laws s) p (q ++ two) (a, next) r)))

  pub successive_leads : (room : ℕ) (s : S) (as' : List A) (one two : List Tok) → Chain final wide s one as' → Opening bs two → ((next : S) → Leads (f next) two) → Leads (successive_at (among tokens bs) f room s) (one ++ two)
  successive_leads zero s as' one two c opening leads = record { ends = λ t rest m. no_room bs ((one ++ two) ++ t ∷ rest) (chain_opening s as' one two c opening t rest m) (fault_at Syntax (t ∷ rest)) }
  successive_leads (suc room) s [] one two r opening leads = subst (λ (ts : List Tok). Leads (successive_at (among tokens bs) f (suc room) s) (ts ++ two)) (sym r.1) (leads_one bs _ (done []) two opening (first_leads (f s) _ two (leads s)))
  successive_leads (suc room) s (a ∷ as') one two (p, q, next, e, r, c) opening leads =
      let behind : Opening bs (q ++ two) = chain_opening next as' q two c opening in
      let all : Opening bs (p ++ (q ++ two)) = opening_within xs bs within (p ++ (q ++ two)) (opening_first (laws s) p (q ++ two) (a, next) r) in
      subst (λ (ts : List Tok). Leads (successive_at (among tokens bs) f (suc room) s) (ts ++ two)) (sym e) (subst (Leads (successive_at (among tokens bs) f (suc room) s)) (sym (append_assoc p q two))
      (leads_one bs _ (done []) (p ++ (q ++ two)) all (leads_behind _ (laws s) p (q ++ two) (a, next) r (first_leads (successive_at (among tokens bs) f room next) _ (q ++ two) (successive_leads room next as' q two c opening leads)) bs apart behind)))

-- ---- pieces one behind another, each of which takes a token

module _ {S A : Type 0} {wide : S → Form Tok (A × S)} {f : S → Reader Tok (A × S)} {ms : List ℕ} (final : S → Bool) (bs : S → List ℕ) (laws : (s : S) → Reading (wide s) (f s) (bs s) ms false) (apart : (s : S) → disjoint ms (bs s) ≡ true) (xs : List ℕ) (within : (s : S) → subset xs (bs s) ≡ true) where
  abbrev at_most : ℕ → S → Reader Tok (List A)
  at_most = chain_within final (λ s. among tokens (bs s)) f

  pub pieces_opening : (s : S) (as' : List A) (one two : List Tok) → Chain final wide s one as' → Opening xs two → Opening (bs s) (one ++ two)
  pieces_opening s [] one two r opening = subst (λ (ts : List Tok). Opening (bs s) (ts ++ two)) (sym r.1) (opening_within xs (bs s) (within s) two opening)
  pieces_opening s (a ∷ as') one two (p, q, next, e, r, c) opening = subst (λ (ts : List Tok). Opening (bs s) (ts ++ two)) (sym e) (subst (Opening (bs s)) (sym (append_assoc p q two)) (opening_first (laws s) p (q ++ two) (a, next) r))

  begun : (n : ℕ) (s : S) (front : List Tok) → Opening (bs s) front → Leads (f s >>= λ x. at_most n x.1 >>= λ more. done (x.0 ∷ more)) front → Leads (at_most (suc n) s) front
  begun n s front opening leads = record { ends = λ t rest m. by_tokens t rest (front ++ t ∷ rest) (opening t rest m) (leads.ends t rest m) }
    where
      not_stopped : (b c : Bool) → c ≡ true → b && not c ≡ false
      not_stopped true true h = refl
      not_stopped true false h = absurd cc
      not_stopped false c h = refl

      by_tokens : (t : Tok) (rest ts : List Tok) → next_is (among tokens (bs s)) ts ≡ true → UpTo tokens ts ((f s >>= λ x. at_most n x.1 >>= λ more. done (x.0 ∷ more)) ts) (fault_at Syntax (t ∷ rest)) → UpTo tokens ts (at_most (suc n) s ts) (fault_at Syntax (t ∷ rest))
      by_tokens t rest ts h u = rw (not_stopped (final s) (next_is (among tokens (bs s)) ts) h) u

  shorter : (s : S) (p q : List Tok) (x : A × S) → wide s p x → length q < length (p ++ q)
  shorter s [] q x r = absurd (never ((laws s).broad.nothing x r))
  shorter s (v ∷ p) q x r = omega (arith, length-append p q)

  pub chain_leads : (n : ℕ) (s : S) (as' : List A) (one two : List Tok) → length one < n → Chain final wide s one as' → Opening xs two → ((next : S) → Leads (f next) two) → Leads (at_most n s) (one ++ two)
  chain_leads zero s as' one two lt c opening leads = absurd (omega (arith, lt))
  chain_leads (suc n) s [] one two lt r opening leads = subst (λ (ts : List Tok). Leads (at_most (suc n) s) (ts ++ two)) (sym r.1) (begun n s two (opening_within xs (bs s) (within s) two opening) (first_leads (f s) _ two (leads s)))
  chain_leads (suc n) s (a ∷ as') one two lt (p, q, next, e, r, c) opening leads =
      let behind : Opening (bs next) (q ++ two) = pieces_opening next as' q two c opening in
      let all : Opening (bs s) (p ++ (q ++ two)) = opening_first (laws s) p (q ++ two) (a, next) r in
      subst (λ (ts : List Tok). Leads (at_most (suc n) s) (ts ++ two)) (sym e) (subst (Leads (at_most (suc n) s)) (sym (append_assoc p q two))
      (begun n s (p ++ (q ++ two)) all (leads_behind _ (laws s) p (q ++ two) (a, next) r (first_leads (at_most n next) _ (q ++ two) (chain_leads n next as' q two (omega (arith, lt, ap length e, shorter s p q (a, next) r)) c opening leads)) (bs next) (apart next) behind)))
