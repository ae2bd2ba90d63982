-- Chains of type names, and how far they may be gone along.
use Rattle.std.specs.Prelude.{IfSome}
use Rattle.std.proofs.Common.{◌≡◌, sym, ap, subst, ◌∙◌, ℕ, zero, suc, ◌+◌, ◌<◌, ◌≤◌, List, [], ◌∷◌, length, get_or, set, replicate, Option, None, Some, Result, Ok, Err, arith}
use Rattle.ir_lex.specs.Tok.{Tok}
use Rattle.ir_parse_parts.specs.Shapes.{Written, int, pointer, array, structure, named}
use Rattle.ir_parse_names.specs.declared.fault.Fault.{Fault}
use Rattle.ir_parse_names.specs.declared.heads.Chain.{Chain}
use Rattle.ir_parse_names.specs.Heads.{IsChain, IsChainFrom, IsHead, AreHeads}
use Rattle.ir_parse_names.specs.Resolving.{◌>>=◌}
use Rattle.ir_parse_names.specs.Types.{Types, or_unknown, entry_in, shape_in, shape_at, head_from, chased}

-- a chain that leads somewhere does so if more names are allowed
pub head_more : (m n : ℕ) (types : Types) (s h : Written) → m ≤ n → head_from m types s ≡ Ok h → head_from n types s ≡ Ok h
head_more m n types (int w) h le e = plain m n e
  where
    plain : (m n : ℕ) → head_from m types (int w) ≡ Ok h → head_from n types (int w) ≡ Ok h
    plain zero zero e = e
    plain zero (suc n) e = e
    plain (suc m) zero e = e
    plain (suc m) (suc n) e = e
head_more m n types pointer h le e = plain m n e
  where
    plain : (m n : ℕ) → head_from m types pointer ≡ Ok h → head_from n types pointer ≡ Ok h
    plain zero zero e = e
    plain zero (suc n) e = e
    plain (suc m) zero e = e
    plain (suc m) (suc n) e = e
head_more m n types (array count of) h le e = plain m n e
  where
    plain : (m n : ℕ) → head_from m types (array count of) ≡ Ok h → head_from n types (array count of) ≡ Ok h
    plain zero zero e = e
    plain zero (suc n) e = e
    plain (suc m) zero e = e
    plain (suc m) (suc n) e = e
head_more m n types (structure packed parts) h le e = plain m n e
  where
    plain : (m n : ℕ) → head_from m types (structure packed parts) ≡ Ok h → head_from n types (structure packed parts) ≡ Ok h
    plain zero zero e = e
    plain zero (suc n) e = e
    plain (suc m) zero e = e
    plain (suc m) (suc n) e = e
head_more zero n types (named name) h le e = absurd cc
head_more (suc m) zero types (named name) h le e = absurd (omega (arith, le))
head_more (suc m) (suc n) types (named name) h le e = by_shape (shape_in types name) (λ s d. head_more m n types s h (omega (arith, le)) d) e
  where
    by_shape : (r : Result Written Fault) → ((s : Written) → head_from m types s ≡ Ok h → head_from n types s ≡ Ok h) → (r >>= λ s. head_from m types s) ≡ Ok h → (r >>= λ s. head_from n types s) ≡ Ok h
    by_shape (Ok s) again d = again s d
    by_shape (Err f) again d = absurd cc

-- whatever the line
pub any_line : (n : ℕ) (types : Types) (l line : ℕ) (o : Option Written) (h : Written) → chased n types l o ≡ Ok h → chased n types line o ≡ Ok h
any_line n types l line None h e = absurd cc
any_line n types l line (Some s) h e = e

chased_more : (m n : ℕ) (types : Types) (line : ℕ) (o : Option Written) (h : Written) → m ≤ n → chased m types line o ≡ Ok h → chased n types line o ≡ Ok h
chased_more m n types line None h le e = absurd cc
chased_more m n types line (Some s) h le e = head_more m n types s h le e

-- from a name to its definition
pub through : (n : ℕ) (types : Types) (name : Tok) (o : Option Written) (h : Written) → entry_in types name ≡ Ok o → chased n types name.line o ≡ Ok h → head_from (suc n) types (named name) ≡ Ok h
through n types name o h e d = ap (λ (r : Result (Option Written) Fault). (r >>= λ entry. or_unknown name.line entry) >>= λ s. head_from n types s) e ∙ d

one_more : (types : Types) (name : Tok) (p : ℕ) (c : Chain) → entry_in types name ≡ Ok (shape_at types p) → IsChain types p c → head_from (c.names + 1) types (named name) ≡ Ok c.head.now
one_more types name p c e h =
    let next : suc c.names ≡ c.names + 1 = omega arith in
    subst (λ (n : ℕ). head_from n types (named name) ≡ Ok c.head.now) next (through c.names types name (shape_at types p) c.head.now e (any_line c.names types 0 name.line (shape_at types p) c.head.now h.0))

pub found : (types : Types) (name : Tok) (p : ℕ) (c : Chain) → entry_in types name ≡ Ok (shape_at types p) → IsChain types p c → head_from (length types + 1) types (named name) ≡ Ok c.head.now
found types name p c e h = head_more (c.names + 1) (length types + 1) types (named name) c.head.now (omega (arith, h.1)) (one_more types name p c e h)

-- the chain that goes on by one more name
pub goes_one : (types : Types) (p : ℕ) (c : Chain) → IsChain types p c → c.names < length types
    → (name : Tok) → entry_in types name ≡ Ok (shape_at types p) → (head_from (c.names + 1) types (named name) ≡ Ok c.head.now) × (c.names + 1 ≤ length types)
goes_one types p c h lt name e = (one_more types name p c e h, omega (arith, lt))

pub named_chain : (types : Types) (p : ℕ) (name : Tok) (o : Option Chain) → shape_at types p ≡ Some (named name) → IfSome o (λ c. IsChainFrom types name c) → IsHead types p o
named_chain types p name None e h = tt
named_chain types p name (Some c) e h = (ap (chased c.names types 0) e ∙ h.0, h.1)

-- ---- of each definition

head_at : (types : Types) (p : ℕ) (cs : List (Option Chain)) (k : ℕ) (c : Option Chain) → AreHeads types p cs → k < length cs → c ≡ get_or cs k c → IsHead types (p + k) c
head_at types p [] k c h lt e = absurd (omega (arith, lt))
head_at types p (d ∷ cs) zero c h lt e = let same : p ≡ p + 0 = omega arith in subst (λ (q : ℕ). IsHead types q c) same (subst (IsHead types p) (sym e) h.0)
head_at types p (d ∷ cs) (suc k) c h lt e = let same : suc p + k ≡ p + suc k = omega arith in subst (λ (q : ℕ). IsHead types q c) same (head_at types (suc p) cs k c h.1 (omega (arith, lt)) e)

heads_set : (types : Types) (p : ℕ) (cs : List (Option Chain)) (k : ℕ) (c : Option Chain) → AreHeads types p cs → IsHead types (p + k) c → AreHeads types p (set cs k c)
heads_set types p [] k c h i = tt
heads_set types p (d ∷ cs) zero c h i = let same : p + 0 ≡ p = omega arith in (subst (λ (q : ℕ). IsHead types q c) same i, h.1)
heads_set types p (d ∷ cs) (suc k) c h i = let same : p + suc k ≡ suc p + k = omega arith in (h.0, heads_set types (suc p) cs k c h.1 (subst (λ (q : ℕ). IsHead types q c) same i))

pub none_found : (types : Types) (p n : ℕ) → AreHeads types p (replicate n None)
none_found types p zero = tt
none_found types p (suc n) = (tt, none_found types (suc p) n)

pub chain_found : (types : Types) (cs : List (Option Chain)) (k : ℕ) (c : Option Chain) → AreHeads types 0 cs → k < length cs → c ≡ get_or cs k c → IfSome c (λ d. IsChain types k d)
chain_found types cs k c h lt e = let same : 0 + k ≡ k = omega arith in by_case c (subst (λ (q : ℕ). IsHead types q c) same (head_at types 0 cs k c h lt e))
  where
    by_case : (o : Option Chain) → IsHead types k o → IfSome o (λ d. IsChain types k d)
    by_case None i = tt
    by_case (Some d) i = i

pub set_found : (types : Types) (cs : List (Option Chain)) (k : ℕ) (c : Option Chain) → AreHeads types 0 cs → IsHead types k c → AreHeads types 0 (set cs k c)
set_found types cs k c h i = let same : k ≡ 0 + k = omega arith in heads_set types 0 cs k c h (subst (λ (q : ℕ). IsHead types q c) same i)
