-- Where the grammar reads a list of tokens, and where it stops.
use Rattle.std.proofs.Common.{◌≡◌, ℕ, zero, suc, ◌-◌, ◌<◌, ◌≤◌, get_or, Bool, true, false, ◌⊎◌, inl, inr, List, [], ◌∷◌, ◌++◌, length, drop, Result, Ok, Err, refl, sym, ap, subst, ◌∙◌, append_assoc, arith}
use Rattle.std.proofs.lemmas.List.{append-nil, length-append, length-map, drop-map}
use Rattle.ir_lex.specs.TokenKinds.{number}
use Rattle.ir_lex.specs.Tok.{Tok, tok, toks}
use Rattle.ir_lex.specs.declared.token.Token.{Token}
use Rattle.ir_parse_parts.specs.Alphabet.{among}
use Rattle.ir_parse_parts.specs.Faults.{Dead, Extends, StopsAt}
use Rattle.ir_parse_parts.specs.Lawful.{Lawful}
use Rattle.ir_parse_parts.specs.Readers.{Reader}
use Rattle.ir_parse_parts.specs.declared.fault.Fault.{Fault}
use Rattle.ir_parse_parts.specs.declared.fault.TokenFault.{TokenFault}
use Rattle.ir_parse_parts.specs.declared.fault.TokenFault.TheVariants.{Number}
use Rattle.ir_parse_parts.proofs.Composed.{cut_is}
use Rattle.ir_parse_parts.proofs.Whole as whole
use Rattle.ir_parse_parts.specs.Classes.{tokens}
use Rattle.ir_parse_parts.specs.declared.raw.Item.{Item}
use Rattle.ir_parse_heads.proofs.FunctionHeadRules.{name_not_number}
use Rattle.ir_parse.specs.ItemFormsAt.{ITEM, items_at}
use Rattle.ir_parse.specs.Modules.{FURTHER_PARAMETERS, GLOBAL_NAMES, any_module, item_refusal, last_tokens, module_of, whole_module}
use Rattle.ir_parse.proofs.ItemRules.{ANY, items_rule}
use Rattle.ir_parse.specs.Answers.{IsStopped, stopped_kind}
use Rattle.ir_parse.specs.Kinds.{grammar_fault}
use Rattle.ir_parse.specs.FirstFault.{IsStuck, IsTold, Stuck, end_kind, line_of}
use Rattle.ir_tree.specs.declared.fault_kind.FaultKind.{FaultKind}
use Rattle.ir_parse.specs.declared.fault.ReadFault.{ReadFault}
use Rattle.ir_tree.specs.declared.fault_kind.FaultKind.TheVariants as kinds
use Rattle.ir_parse.proofs.StuckTold.{one_kind, refused_for}

-- ---- what is read

abbrev reader : Reader Tok (List Item)
reader = items_at FURTHER_PARAMETERS GLOBAL_NAMES

module_law : Lawful tokens whole_module any_module reader (among tokens ITEM) (among tokens ANY) true
unfolding whole_module any_module
module_law = (items_rule FURTHER_PARAMETERS GLOBAL_NAMES).law

item_not_number : (t : Tok) → item_refusal t ≡ Number → ⊥
item_not_number t e = name_not_number (number t.kind) e

-- what the grammar has is read
pub read_again : (ts : List Tok) (is : List Item) → whole_module ts is → module_of ts ≡ Ok is
unfolding module_of
read_again ts is s = whole.whole_again tokens whole_module any_module reader (among tokens ITEM) (among tokens ANY) true item_refusal item_not_number module_law ts is s

-- and what is read, it has
pub read_so : (ts : List Tok) (is : List Item) → module_of ts ≡ Ok is → whole_module ts is
unfolding module_of
read_so ts is e = whole.whole_sound tokens whole_module any_module reader (among tokens ITEM) (among tokens ANY) true item_refusal item_not_number module_law ts is e

stops : (ts : List Tok) (f : Fault) → module_of ts ≡ Err f → StopsAt tokens whole_module ts f.left
unfolding module_of
stops ts f e = whole.whole_stops tokens whole_module any_module reader (among tokens ITEM) (among tokens ANY) true item_refusal item_not_number module_law ts f e

pub one_list : (ts : List Tok) (is js : List Item) → whole_module ts is → whole_module ts js → is ≡ js
one_list ts is js s r = same (module_of ts) is js (read_again ts is s) (read_again ts js r)
  where
    same : (a : Result (List Item) Fault) (x y : List Item) → a ≡ Ok x → a ≡ Ok y → x ≡ y
    same a x y e d = cc

-- ---- where it stops

is_stuck : (front rest : List Tok) (b : Bool) → Dead whole_module front rest → IsStuck front rest b
is_stuck front (t ∷ rest) b d = d
is_stuck front [] true d = d
is_stuck front [] false d = tt

told_so : (front rest : List Tok) (b : Bool) (f : Fault) → module_of (front ++ rest) ≡ Err f → length rest ≡ f.left → IsTold front rest b (stopped_kind rest b f.kind)
told_so front [] b f e l = refl
told_so front (t ∷ rest) b f e l = refused_for front t rest f.kind (e ∙ ap (λ (n : ℕ). Err (record { left = n; kind = f.kind })) (sym l))

drop_front : (front rest : List Tok) → drop (length front) (front ++ rest) ≡ rest
drop_front [] rest = refl
drop_front (t ∷ front) rest = drop_front front rest

last_are : (front rest : List Tok) (n : ℕ) → length rest ≡ n → drop (length (front ++ rest) - n) (front ++ rest) ≡ rest
last_are front rest n e =
    let many : length (front ++ rest) - n ≡ length front = omega (arith, e, length-append front rest) in
    ap (λ k. drop k (front ++ rest)) many ∙ drop_front front rest

left_are : (ts front rest : List Tok) (n : ℕ) → ts ≡ front ++ rest → length rest ≡ n → drop (length ts - n) ts ≡ rest
left_are ts front rest n w e = ap (λ (us : List Tok). drop (length us - n) us) w ∙ last_are front rest n e

pub stuck_at : (ts : List Tok) (b : Bool) (end : ℕ) (f : Fault) (left : List Tok) → module_of ts ≡ Err f → left ≡ drop (length ts - f.left) ts → Stuck ts b end (line_of left end) (stopped_kind left b f.kind)
stuck_at ts b end f left e l =
    let s = stops ts f e in
    let same : left ≡ s.rest = l ∙ left_are ts s.front s.rest f.left s.whole s.here in
    record {
      front = s.front;
      rest = s.rest;
      parts = s.whole;
      before = s.before;
      stuck = is_stuck s.front s.rest b s.dead;
      place = ap (λ us. line_of us end) same;
      told = subst (λ (us : List Tok). IsTold s.front s.rest b (stopped_kind us b f.kind)) (sym same) (told_so s.front s.rest b f (ap module_of (sym s.whole) ∙ e) s.here);
    }

-- behind tokens that are a module bytes follow that are no token
pub stuck_behind : (ts : List Tok) (is : List Item) (end : ℕ) → whole_module ts is → Stuck ts false end end kinds.Lex
stuck_behind ts is end s = record {
  front = ts;
  rest = [];
  parts = sym (append-nil ts);
  before = ([], is, subst (λ (us : List Tok). whole_module us is) (sym (append-nil ts)) s, tt);
  stuck = tt;
  place = refl;
  told = refl;
}

-- the last of all tokens
pub last_left : (all : List Token) (n : ℕ) → last_tokens all n ≡ drop (length (toks all) - n) (toks all)
last_left all n = sym (drop-map tok (length all - n) all) ∙ ap (λ k. drop (k - n) (toks all)) (sym (length-map all tok))

-- ---- what the readers answer

pub stuck_so : (all : List Token) (b : Bool) (end : ℕ) (f : Fault) (fault : ReadFault) → module_of (toks all) ≡ Err f → IsStopped (last_tokens all f.left) b end f.kind fault → Stuck (toks all) b end fault.line fault.kind
stuck_so all b end f fault e s =
    subst (λ (k : FaultKind). Stuck (toks all) b end fault.line k) (sym s.1)
    (subst (λ (n : ℕ). Stuck (toks all) b end n (stopped_kind (last_tokens all f.left) b f.kind)) (sym s.0) (stuck_at (toks all) b end f (last_tokens all f.left) e (last_left all f.left)))

pub behind_so : (all : List Token) (is : List Item) (b : Bool) (end : ℕ) (fault : ReadFault) → module_of (toks all) ≡ Ok is → b ≡ false → fault.line ≡ end → fault.kind ≡ end_kind b → Stuck (toks all) b end fault.line fault.kind
behind_so all is b end fault e n l k =
    subst (λ (c : Bool). Stuck (toks all) c end fault.line fault.kind) (sym n)
    (subst (λ (d : FaultKind). Stuck (toks all) false end fault.line d) (sym (k ∙ ap end_kind n))
    (subst (λ (m : ℕ). Stuck (toks all) false end m kinds.Lex) (sym l) (stuck_behind (toks all) is end (read_so (toks all) is e))))

pub whole_so : (all : List Token) (is : List Item) (b : Bool) → module_of (toks all) ≡ Ok is → b ≡ true → (b ≡ true) × whole_module (toks all) is
whole_so all is b e t = (t, read_so (toks all) is e)

-- ---- there is one such place

shorter : (front more : List Tok) → Extends whole_module (front ++ more) → Extends whole_module front
shorter front more v = (more ++ v.0, v.1, subst (λ (us : List Tok). whole_module us v.1) (append_assoc front more v.0) v.2)

-- of two cuts the one that leaves more is a prefix of the other, by a token at least
earlier : (front rest front' rest' : List Tok) → front ++ rest ≡ front' ++ rest' → length rest' < length rest → (t : Tok) × (mid : List Tok) × (more : List Tok) × (rest ≡ t ∷ more) × (front' ≡ front ++ t ∷ mid)
earlier [] rest [] rest' e lt = absurd (omega (arith, ap length e))
earlier [] rest (u ∷ front') rest' e lt = (u, front', front' ++ rest', e, refl)
earlier (t ∷ front) rest [] rest' e lt = absurd (omega (arith, ap length e, length-append front rest))
earlier (t ∷ front) rest (u ∷ front') rest' e lt =
    let h : t ≡ u = cc in
    let r : front ++ rest ≡ front' ++ rest' = cc in
    let i = earlier front rest front' rest' r lt in
    (i.0, i.1, i.2, i.3, ap (λ (x : Tok). x ∷ front') (sym h) ∙ ap (λ (x : List Tok). t ∷ x) i.4)

not_earlier : (ts : List Tok) (b : Bool) (end line here : ℕ) (kind other : FaultKind) (s : Stuck ts b end line kind) (r : Stuck ts b end here other) → length r.rest < length s.rest → ⊥
not_earlier ts b end line here kind other s r lt =
    let e = earlier s.front s.rest r.front r.rest (sym s.parts ∙ r.parts) lt in
    let d : Extends whole_module (s.front ++ e.0 ∷ []) → ⊥ = subst (λ (us : List Tok). IsStuck s.front us b) e.3 s.stuck in
    d (shorter (s.front ++ e.0 ∷ []) e.1 (subst (λ (us : List Tok). Extends whole_module us) (e.4 ∙ sym (append_assoc s.front (e.0 ∷ []) e.1)) (r.before.0, r.before.1, r.before.2)))

compared : (m n : ℕ) → (m < n) ⊎ ((n < m) ⊎ (m ≡ n))
compared zero zero = inr (inr refl)
compared zero (suc n) = inl (omega arith)
compared (suc m) zero = inr (inl (omega arith))
compared (suc m) (suc n) = raised (compared m n)
  where
    raised : (m < n) ⊎ ((n < m) ⊎ (m ≡ n)) → (suc m < suc n) ⊎ ((suc n < suc m) ⊎ (suc m ≡ suc n))
    raised (inl l) = inl (omega (arith, l))
    raised (inr (inl l)) = inr (inl (omega (arith, l)))
    raised (inr (inr e)) = inr (inr (ap suc e))

one_told : (front rest : List Tok) (b : Bool) (kind other : FaultKind) → IsTold front rest b kind → IsTold front rest b other → kind ≡ other
one_told front [] b kind other k o = k ∙ sym o
one_told front (t ∷ rest) b kind other k o = one_kind front t kind other k o

pub one_place : (ts : List Tok) (b : Bool) (end line here : ℕ) (kind other : FaultKind) → Stuck ts b end line kind → Stuck ts b end here other → (line ≡ here) × (kind ≡ other)
one_place ts b end line here kind other s r = by (compared (length s.rest) (length r.rest))
  where
    by_length : length s.rest ≡ length r.rest → (line ≡ here) × (kind ≡ other)
    by_length l =
        let c = cut_is s.front s.rest r.front r.rest (sym s.parts ∙ r.parts) l in (
          s.place ∙ ap (λ us. line_of us end) c.1 ∙ sym r.place,
          one_told r.front r.rest b kind other (subst (λ (z : List Tok × List Tok). IsTold z.0 z.1 b kind) (λ i. (c.0 i, c.1 i)) s.told) r.told,
        )

    by : (length s.rest < length r.rest) ⊎ ((length r.rest < length s.rest) ⊎ (length s.rest ≡ length r.rest)) → (line ≡ here) × (kind ≡ other)
    by (inl l) = absurd (not_earlier ts b end here line other kind r s l)
    by (inr (inl l)) = absurd (not_earlier ts b end line here kind other s r l)
    by (inr (inr l)) = by_length l

-- what the grammar has is stuck nowhere
pub not_stuck : (ts : List Tok) (is : List Item) (end line : ℕ) (kind : FaultKind) → whole_module ts is → Stuck ts true end line kind → ⊥
not_stuck ts is end line kind h s = by s.rest s.parts s.stuck
  where
    by : (rest : List Tok) → ts ≡ s.front ++ rest → IsStuck s.front rest true → ⊥
    by [] p d = d is (subst (λ (us : List Tok). whole_module us is) (p ∙ append-nil s.front) h)
    by (t ∷ rest) p d = d (rest, is, subst (λ (us : List Tok). whole_module us is) (p ∙ sym (append_assoc s.front (t ∷ []) rest)) h)

-- a reading that stops at the first of these tokens
pub stopped_at : (rest last : List Token) (d : Token) (whole : Bool) (end : ℕ) (refusal : TokenFault) (kind : FaultKind) → 1 ≤ length rest → rest ≡ last → kind ≡ grammar_fault (tok (get_or rest 0 d)) refusal → ((get_or rest 0 d).line ≡ line_of (toks last) end) × (kind ≡ stopped_kind (toks last) whole refusal)
stopped_at rest last d whole end refusal kind some same is = subst (λ (ts : List Token). ((get_or rest 0 d).line ≡ line_of (toks ts) end) × (kind ≡ stopped_kind (toks ts) whole refusal)) same (first rest some is)
  where
    first : (rest : List Token) → 1 ≤ length rest → kind ≡ grammar_fault (tok (get_or rest 0 d)) refusal → ((get_or rest 0 d).line ≡ line_of (toks rest) end) × (kind ≡ stopped_kind (toks rest) whole refusal)
    first [] some is = absurd (omega (arith, some))
    first (t ∷ ts) some is = (refl, is)

-- or behind the last
pub stopped_behind : (rest last : List Token) (whole : Bool) (end line : ℕ) (refusal : TokenFault) (kind : FaultKind) → length rest < 1 → rest ≡ last → line ≡ end → kind ≡ end_kind whole → (line ≡ line_of (toks last) end) × (kind ≡ stopped_kind (toks last) whole refusal)
stopped_behind rest last whole end line refusal kind none same at is = subst (λ (ts : List Token). (line ≡ line_of (toks ts) end) × (kind ≡ stopped_kind (toks ts) whole refusal)) same (behind rest none)
  where
    behind : (rest : List Token) → length rest < 1 → (line ≡ line_of (toks rest) end) × (kind ≡ stopped_kind (toks rest) whole refusal)
    behind [] none = (at, is)
    behind (t ∷ ts) none = absurd (omega (arith, none))
