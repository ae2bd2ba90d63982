-- Symbols that get numbers one after another.
use Rattle.std.proofs.Common.{◌≡◌, ◌∙◌, ◌<◌, ◌+◌, ℕ, zero, suc, sym, ap, subst, refl, Bool, true, false, cond, List, [], ◌∷◌, ◌++◌, map, length, take, flat_map, append-nil, Some, None, slice_get, slice_index_or}
use Rattle.std.proofs.lemmas.List.{map-append, take_more}
use Rattle.std.proofs.lemmas.List.Concat.{flat_map-append}
use Rattle.std.specs.List.{list_any}
use Rattle.ir_tree.specs.declared.operand.Symbol.{Symbol}
use Rattle.combined_index.specs.Entries.{Entry, stands_in}
use Rattle.ir_tree.specs.Symbols.{symbol_eq}
use Rattle.combined_index.specs.Numbered.{Each, NamesEntries, NamesEntry, NamesSymbol, NamesSymbols, Numbers, NumbersEntries, NumbersEntry, NumbersModules, NumbersSymbol, NumbersSymbols, all_noted, noted}
use Rattle.combined_index.specs.declared.definition.Definition.{Definition}

-- ---- numbers stay

further : {X : Type 0} (xs ys : List X) (n : ℕ) (x : X) → slice_get xs n ≡ Some x → slice_get (xs ++ ys) n ≡ Some x
further [] ys n x h = absurd (none h)
  where
    none : None ≡ Some x → ⊥
    none h = cc
further (y ∷ xs) ys zero x h = h
further (y ∷ xs) ys (suc n) x h = further xs ys n x h

one_stays : (ss : List Symbol) (t s : Symbol) (n : ℕ) → NamesSymbol ss s n → NamesSymbol (noted ss t) s n
one_stays ss t s n h = by (list_any (symbol_eq t) ss)
  where
    by : (b : Bool) → NamesSymbol (cond b ss (ss ++ t ∷ [])) s n
    by true = h
    by false = further ss (t ∷ []) n s h

-- a symbol keeps its number when more are noted
pub symbol_stays : (ss more : List Symbol) (s : Symbol) (n : ℕ) → NamesSymbol ss s n → NamesSymbol (all_noted ss more) s n
symbol_stays ss [] s n h = h
symbol_stays ss (t ∷ more) s n h = symbol_stays (noted ss t) more s n (one_stays ss t s n h)

module _ {X Y : Type 0} (Names : List Symbol → X → Y → Type 0) (stays : (ss more : List Symbol) (x : X) (y : Y) → Names ss x y → Names (all_noted ss more) x y) where
  pub each_stays : (ss more : List Symbol) (xs : List X) (ys : List Y) → Each (Names ss) xs ys → Each (Names (all_noted ss more)) xs ys
  each_stays ss more [] [] h = tt
  each_stays ss more (x ∷ xs) (y ∷ ys) h = (stays ss more x y h.0, each_stays ss more xs ys h.1)
  each_stays ss more [] (y ∷ ys) h = h
  each_stays ss more (x ∷ xs) [] h = h

pub symbols_stay : (ss more : List Symbol) (xs : List Symbol) (ns : List ℕ) → NamesSymbols ss xs ns → NamesSymbols (all_noted ss more) xs ns
symbols_stay = each_stays NamesSymbol symbol_stays

pub entry_stays : (ss more : List Symbol) (e : Entry) (d : Definition) → NamesEntry ss e d → NamesEntry (all_noted ss more) e d
entry_stays ss more e d h = record {
  symbol = symbol_stays ss more e.symbol d.symbol h.symbol;
  linkage = h.linkage;
  count = h.count;
  noinline = h.noinline;
  optnone = h.optnone;
  prevails = h.prevails;
  calls = symbols_stay ss more e.calls d.calls h.calls;
  refs = symbols_stay ss more e.refs d.refs h.refs;
}

pub entries_stay : (ss more : List Symbol) (es : List Entry) (ds : List Definition) → NamesEntries ss es ds → NamesEntries (all_noted ss more) es ds
entries_stay = each_stays NamesEntry entry_stays

-- ---- one more thing is numbered

pub noted_append : (ss xs ys : List Symbol) → all_noted ss (xs ++ ys) ≡ all_noted (all_noted ss xs) ys
noted_append ss [] ys = refl
noted_append ss (x ∷ xs) ys = noted_append (noted ss x) xs ys

flat_one : {X A : Type 0} (f : X → List A) (xs : List X) (x : X) → flat_map f (xs ++ x ∷ []) ≡ flat_map f xs ++ f x
flat_one {A = A} f xs x = flat_map-append f xs (x ∷ []) ∙ ap (λ (z : List A). flat_map f xs ++ z) (append-nil (f x))

each_push : {X Y : Type 0} (R : X → Y → Type 0) (xs : List X) (ys : List Y) (x : X) (y : Y) → Each R xs ys → R x y → Each R (xs ++ x ∷ []) (ys ++ y ∷ [])
each_push R [] [] x y h r = (r, tt)
each_push R (a ∷ xs) (b ∷ ys) x y h r = (h.0, each_push R xs ys x y h.1 r)
each_push R [] (b ∷ ys) x y h r = absurd h
each_push R (a ∷ xs) [] x y h r = absurd h

module _ {X Y : Type 0} (stand : X → List Symbol) (Names : List Symbol → X → Y → Type 0) (stays : (ss more : List Symbol) (x : X) (y : Y) → Names ss x y → Names (all_noted ss more) x y) where
  pub one_more : (old mid new : List Symbol) (xs : List X) (ys : List Y) (x : X) (y : Y)
      → Numbers (λ zs. flat_map stand zs) (λ ss. Each (Names ss)) old xs mid ys → Numbers stand Names mid x new y
      → Numbers (λ zs. flat_map stand zs) (λ ss. Each (Names ss)) old (xs ++ x ∷ []) new (ys ++ y ∷ [])
  one_more old mid new xs ys x y before one = record {
    grown =
        one.grown ∙ ap (λ (z : List Symbol). all_noted z (stand x)) before.grown
        ∙ sym (noted_append old (flat_map stand xs) (stand x)) ∙ ap (all_noted old) (sym (flat_one stand xs x));
    named =
        each_push (Names new) xs ys x y
        (subst (λ (z : List Symbol). Each (Names z) xs ys) (sym one.grown) (each_stays Names stays mid (stand x) xs ys before.named)) one.named;
  }

-- ---- the loops

pub symbol_more : (f : List ℕ → Symbol) (names : List (List ℕ)) (i : ℕ) (d : List ℕ) → i < length names → (old mid new : List Symbol) (ns : List ℕ) (n : ℕ)
    → NumbersSymbols old (map f (take i names)) mid ns → NumbersSymbol mid (f (slice_index_or names i d)) new n
    → NumbersSymbols old (map f (take (i + 1) names)) new (ns ++ n ∷ [])
symbol_more f names i d lt old mid new ns n before one =
    subst (λ (z : List Symbol). NumbersSymbols old z new (ns ++ n ∷ []))
    (sym (ap (map f) (take_more names i d lt) ∙ map-append f (take i names) (slice_index_or names i d ∷ [])))
    (one_more (λ s. s ∷ []) NamesSymbol symbol_stays old mid new (map f (take i names)) ns (f (slice_index_or names i d)) n before one)

pub entry_more : (old mid new : List Symbol) (es : List Entry) (ds : List Definition) (e : Entry) (d : Definition)
    → NumbersEntries old es mid ds → NumbersEntry mid e new d → NumbersEntries old (es ++ e ∷ []) new (ds ++ d ∷ [])
entry_more = one_more stands_in NamesEntry entry_stays

pub module_more : (old mid new : List Symbol) (ms : List (List Entry)) (dss : List (List Definition)) (m : List Entry) (ds : List Definition)
    → NumbersModules old ms mid dss → NumbersEntries mid m new ds → NumbersModules old (ms ++ m ∷ []) new (dss ++ ds ∷ [])
module_more = one_more (λ es. flat_map stands_in es) NamesEntries entries_stay

-- ---- a definition from its parts

flat_each : {X : Type 0} (xs : List X) → flat_map (λ x. x ∷ []) xs ≡ xs
flat_each [] = refl
flat_each {X = X} (x ∷ xs) = ap (λ (z : List X). x ∷ z) (flat_each xs)

-- three lists of symbols, numbered one after another
pub parts : (old a b new : List Symbol) (s : Symbol) (n : ℕ) (calls refs : List Symbol) (cs rs : List ℕ)
    → NumbersSymbol old s a n → NumbersSymbols a calls b cs → NumbersSymbols b refs new rs
    → (new ≡ all_noted old (s ∷ (calls ++ refs))) × NamesSymbol new s n × NamesSymbols new calls cs × NamesSymbols new refs rs
parts old a b new s n calls refs cs rs first second third =
    let at_b : b ≡ all_noted a calls = second.grown ∙ ap (all_noted a) (flat_each calls) in
    let at_new : new ≡ all_noted b refs = third.grown ∙ ap (all_noted b) (flat_each refs) in
    let through : new ≡ all_noted a (calls ++ refs) = at_new ∙ ap (λ (z : List Symbol). all_noted z refs) at_b ∙ sym (noted_append a calls refs) in (
      through ∙ ap (λ (z : List Symbol). all_noted z (calls ++ refs)) first.grown,
      subst (λ (z : List Symbol). NamesSymbol z s n) (sym through) (symbol_stays a (calls ++ refs) s n first.named),
      subst (λ (z : List Symbol). NamesSymbols z calls cs) (sym at_new) (symbols_stay b refs calls cs second.named),
      third.named,
    )
