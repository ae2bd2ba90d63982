-- The table as one more mention is noted.
use Rattle.std.proofs.Common.{◌≡◌, ◌∙◌, ◌||◌, ◌&&◌, ℕ, sym, ap, ap₂, refl, Bool, true, false, cond, List, [], ◌∷◌, ◌++◌, map, filter, Option, Some, None, Bor, Contains, arith}
use Rattle.std.proofs.lemmas.Cmp.{nat_list_eq_equiv}
use Rattle.std.proofs.lemmas.List.{map-append}
use Rattle.std.proofs.lemmas.List.Elements.{Contains-get_or, Contains-append_right}
use Rattle.std.proofs.lemmas.Map.Views.{lookup-from_Contains}
use Rattle.std.proofs.lemmas.Slice.Eq.{bytes_eq-Decides}
use Rattle.std.specs.Cmp.{IsEquivalence, on_equiv}
use Rattle.std.specs.List.{IsDistinct}
use Rattle.std.specs.Map.{keys_of, lookup}
use Rattle.std.specs.Str.{bytes_eq}
use Rattle.indexmap.specs.IndexMap.{insert_entry}
use Rattle.symbol_resolve.specs.Listed.{Entries, Listing, Tabled, facts_of, key_names, known, noted, or_this, or_unknown, pairs, prevails, same_key, second_or, settled}
use Rattle.symbol_resolve.specs.Mentions.{Mention, as_function, as_variable, is_function, is_strong, is_variable, is_weak, modules_with, names_of, strongly, weakly}
use Rattle.symbol_resolve.specs.Prevailing.{first, prevailing, second}
use Rattle.ir_tree.specs.Once.{once}
use Rattle.symbol_resolve.specs.declared.facts.Facts.{Facts}
use Rattle.symbol_resolve.specs.declared.mention.SymbolKind.{SymbolKind}
use Rattle.symbol_resolve.specs.declared.mention.SymbolKind.TheVariants as kinds
use Rattle.symbol_resolve.specs.declared.mention.Standing.{Standing}
use Rattle.symbol_resolve.specs.declared.mention.Standing.TheVariants as standings
use Rattle.symbol_resolve.proofs.Names.{and_name, filter_both, is_in, once_more}

-- ---- entries

-- what is known once a name has the value v
known_then : (es : Entries) (k : Bor (List ℕ)) (v : Facts) (n : List ℕ) → known (insert_entry same_key es k v) n ≡ cond (bytes_eq n k.now) v (known es n)
known_then [] k v n = by (bytes_eq n k.now)
  where
    by : (b : Bool) → or_unknown (cond b (Some v) None) ≡ cond b v (or_unknown None)
    by true = refl
    by false = refl
known_then (e ∷ es) k v n = by (same_key k e.0) refl (known_then es k v n)
  where
    -- the entry itself
    at_head : (c : Bool) (rest : Option Facts) → or_unknown (cond c (Some v) rest) ≡ cond c v (or_unknown (cond c (Some e.1) rest))
    at_head true rest = refl
    at_head false rest = refl

    same : same_key k e.0 ≡ true → bytes_eq n e.0.now ≡ bytes_eq n k.now
    same h = nat_list_eq_equiv.symm n e.0.now ∙ sym (nat_list_eq_equiv.congr k.now e.0.now n h) ∙ nat_list_eq_equiv.symm k.now n

    apart : same_key k e.0 ≡ false → bytes_eq n e.0.now ≡ true → bytes_eq n k.now ≡ false
    apart h g = nat_list_eq_equiv.congr n e.0.now k.now g ∙ nat_list_eq_equiv.symm e.0.now k.now ∙ h

    -- an entry in front of the one that changes
    in_front : (c : Bool) → bytes_eq n e.0.now ≡ c → same_key k e.0 ≡ false
        → known (insert_entry same_key es k v) n ≡ cond (bytes_eq n k.now) v (known es n)
        → known (e ∷ insert_entry same_key es k v) n ≡ cond (bytes_eq n k.now) v (known (e ∷ es) n)
    in_front true g h ih =
        ap (λ (c : Bool). or_unknown (cond c (Some e.1) (lookup (λ key. bytes_eq n key.now) (insert_entry same_key es k v)))) g
        ∙ sym (ap₂ (λ (b c : Bool). cond b v (or_unknown (cond c (Some e.1) (lookup (λ key. bytes_eq n key.now) es)))) (apart h g) g)
    in_front false g h ih =
        ap (λ (c : Bool). or_unknown (cond c (Some e.1) (lookup (λ key. bytes_eq n key.now) (insert_entry same_key es k v)))) g
        ∙ ih ∙ sym (ap (λ (c : Bool). cond (bytes_eq n k.now) v (or_unknown (cond c (Some e.1) (lookup (λ key. bytes_eq n key.now) es)))) g)

    by : (a : Bool) → same_key k e.0 ≡ a → known (insert_entry same_key es k v) n ≡ cond (bytes_eq n k.now) v (known es n)
        → known (insert_entry same_key (e ∷ es) k v) n ≡ cond (bytes_eq n k.now) v (known (e ∷ es) n)
    by true h ih =
        ap (λ (a : Bool). known (cond a ((e.0, v) ∷ es) (e ∷ insert_entry same_key es k v)) n) h
        ∙ at_head (bytes_eq n e.0.now) (lookup (λ key. bytes_eq n key.now) es)
        ∙ ap (λ (c : Bool). cond c v (known (e ∷ es) n)) (same h)
    by false h ih =
        ap (λ (a : Bool). known (cond a ((e.0, v) ∷ es) (e ∷ insert_entry same_key es k v)) n) h
        ∙ in_front (bytes_eq n e.0.now) refl h ih

-- the names once one has a value
names_then : (es : Entries) (k : Bor (List ℕ)) (v : Facts) → key_names (insert_entry same_key es k v) ≡ and_name (key_names es) k.now
names_then [] k v = refl
names_then (e ∷ es) k v = by (same_key k e.0) refl (names_then es k v)
  where
    pushed : (b : Bool) → e.0.now ∷ cond b (key_names es) (key_names es ++ k.now ∷ []) ≡ cond b (e.0.now ∷ key_names es) ((e.0.now ∷ key_names es) ++ k.now ∷ [])
    pushed true = refl
    pushed false = refl

    by : (a : Bool) → same_key k e.0 ≡ a → key_names (insert_entry same_key es k v) ≡ and_name (key_names es) k.now
        → key_names (insert_entry same_key (e ∷ es) k v) ≡ and_name (key_names (e ∷ es)) k.now
    by true h ih =
        ap (λ (a : Bool). key_names (cond a ((e.0, v) ∷ es) (e ∷ insert_entry same_key es k v))) h
        ∙ sym (ap (λ (a : Bool). cond (a || is_in (key_names es) k.now) (e.0.now ∷ key_names es) ((e.0.now ∷ key_names es) ++ k.now ∷ [])) h)
    by false h ih =
        ap (λ (a : Bool). key_names (cond a ((e.0, v) ∷ es) (e ∷ insert_entry same_key es k v))) h
        ∙ ap (λ (z : List (List ℕ)). e.0.now ∷ z) ih ∙ pushed (is_in (key_names es) k.now)
        ∙ sym (ap (λ (a : Bool). cond (a || is_in (key_names es) k.now) (e.0.now ∷ key_names es) ((e.0.now ∷ key_names es) ++ k.now ∷ [])) h)

-- ---- facts

module _ (ms : List Mention) (number : ℕ) (name : List ℕ) (kind : SymbolKind) (standing : Standing) where
  abbrev pub one : Mention
  one = record { number = number; name = name; kind = kind; standing = standing }

  -- the modules of the mentions that pass a test, with one more
  with_one : (test : Mention → Bool) (n : List ℕ) (b : Bool) → (bytes_eq n name && test one) ≡ b
      → modules_with test (ms ++ one ∷ []) n ≡ modules_with test ms n ++ cond b (number ∷ []) []
  with_one test n b h =
      ap (map (λ m. m.number)) (filter_both (λ m. bytes_eq n m.name && test m) ms (one ∷ []))
      ∙ map-append (λ m. m.number) (filter (λ m. bytes_eq n m.name && test m) ms) (filter (λ m. bytes_eq n m.name && test m) (one ∷ []))
      ∙ ap (λ (z : List ℕ). modules_with test ms n ++ z) (by b h)
    where
      by : (b : Bool) → (bytes_eq n name && test one) ≡ b → map (λ m. m.number) (filter (λ m. bytes_eq n m.name && test m) (one ∷ [])) ≡ cond b (number ∷ []) []
      by true h = ap (λ (c : Bool). map (λ (m : Mention). m.number) (cond c (one ∷ []) [])) h
      by false h = ap (λ (c : Bool). map (λ (m : Mention). m.number) (cond c (one ∷ []) [])) h

  first_with : (w : List ℕ) (b : Bool) → first (w ++ cond b (number ∷ []) []) ≡ cond b (or_this (first w) number) (first w)
  first_with [] true = refl
  first_with [] false = refl
  first_with (k ∷ ks) true = refl
  first_with (k ∷ ks) false = refl

  second_with : (w : List ℕ) (b : Bool) → second (w ++ cond b (number ∷ []) []) ≡ cond b (second_or (first w) (second w) number) (second w)
  second_with [] true = refl
  second_with [] false = refl
  second_with (k ∷ []) true = refl
  second_with (k ∷ []) false = refl
  second_with (k ∷ l ∷ ks) true = refl
  second_with (k ∷ l ∷ ks) false = refl

  firsts : (test : Mention → Bool) (n : List ℕ) → first (modules_with test (ms ++ one ∷ []) n) ≡ cond (bytes_eq n name && test one) (or_this (first (modules_with test ms n)) number) (first (modules_with test ms n))
  firsts test n = ap first (with_one test n (bytes_eq n name && test one) refl) ∙ first_with (modules_with test ms n) (bytes_eq n name && test one)

  seconds : (test : Mention → Bool) (n : List ℕ)
      → second (modules_with test (ms ++ one ∷ []) n) ≡ cond (bytes_eq n name && test one) (second_or (first (modules_with test ms n)) (second (modules_with test ms n)) number) (second (modules_with test ms n))
  seconds test n = ap second (with_one test n (bytes_eq n name && test one) refl) ∙ second_with (modules_with test ms n) (bytes_eq n name && test one)

  -- the facts, part by part
  abbrev parts : Facts → Bool → SymbolKind → Standing → Facts
  parts f b kind standing = record {
    function = cond (b && as_function kind) (or_this f.function number) f.function;
    variable = cond (b && as_variable kind) (or_this f.variable number) f.variable;
    strong = cond (b && strongly standing) (or_this f.strong number) f.strong;
    second = cond (b && strongly standing) (second_or f.strong f.second number) f.second;
    weak = cond (b && weakly standing) (or_this f.weak number) f.weak;
  }

  parts_are : (f : Facts) (b : Bool) (kind : SymbolKind) (standing : Standing) → parts f b kind standing ≡ cond b (noted f number kind standing) f
  parts_are f true kinds.Function standings.Strong = refl
  parts_are f true kinds.Function standings.Weak = refl
  parts_are f true kinds.Function standings.Declared = refl
  parts_are f true kinds.Variable standings.Strong = refl
  parts_are f true kinds.Variable standings.Weak = refl
  parts_are f true kinds.Variable standings.Declared = refl
  parts_are f false kind standing = refl

  -- what is to be known of a name behind one more mention
  pub facts_then : (n : List ℕ) → facts_of (ms ++ one ∷ []) n ≡ cond (bytes_eq n name) (noted (facts_of ms n) number kind standing) (facts_of ms n)
  facts_then n =
      (λ i. record {
        function = firsts is_function n i;
        variable = firsts is_variable n i;
        strong = firsts is_strong n i;
        second = seconds is_strong n i;
        weak = firsts is_weak n i;
      })
      ∙ parts_are (facts_of ms n) (bytes_eq n name) kind standing

  -- the table with one more mention
  pub tabled_then : (es then : Entries) (k : Bor (List ℕ)) → k.now ≡ name → Tabled ms es
      → then ≡ insert_entry same_key es k (noted (known es name) number kind standing) → IsDistinct same_key (keys_of then) → Tabled (ms ++ one ∷ []) then
  tabled_then es then k is t then_is apart = record {
    distinct = apart;
    names =
        ap key_names then_is ∙ names_then es k (noted (known es name) number kind standing)
        ∙ ap₂ and_name t.names is ∙ sym (once_more (names_of ms) name)
        ∙ ap once (sym (map-append (λ (m : Mention). m.name) ms (one ∷ [])));
    facts = λ n.
        ap (λ (z : Entries). known z n) then_is ∙ known_then es k (noted (known es name) number kind standing) n
        ∙ ap (λ (z : List ℕ). cond (bytes_eq n z) (noted (known es name) number kind standing) (known es n)) is
        ∙ by n (bytes_eq n name) refl ∙ sym (facts_then n);
  }
    where
      by : (n : List ℕ) (b : Bool) → bytes_eq n name ≡ b
          → cond (bytes_eq n name) (noted (known es name) number kind standing) (known es n) ≡ cond (bytes_eq n name) (noted (facts_of ms n) number kind standing) (facts_of ms n)
      by n true h =
          let same : n ≡ name = (bytes_eq-Decides n name).0 h in
          ap₂ (λ (f g : Facts). cond (bytes_eq n name) (noted f number kind standing) g) (t.facts name ∙ ap (facts_of ms) (sym same)) (t.facts n)
      by n false h =
          ap (λ (c : Bool). cond c (noted (known es name) number kind standing) (known es n)) h ∙ t.facts n
          ∙ sym (ap (λ (c : Bool). cond c (noted (facts_of ms n) number kind standing) (facts_of ms n)) h)

-- ---- the table as a list

key_laws : IsEquivalence same_key
key_laws = on_equiv (λ (k : Bor (List ℕ)). k.now) nat_list_eq_equiv

abbrev pub Each : (List ℕ → Facts) → Entries → Type 0
Each f [] = Unit {0}
Each f (e ∷ es) = (e.1 ≡ f e.0.now) × Each f es

each : (f : List ℕ → Facts) (es : Entries) → ((e : Bor (List ℕ) × Facts) → Contains es e → e.1 ≡ f e.0.now) → Each f es
each f [] h = tt
each f (e ∷ es) h = (h e (Contains-get_or (e ∷ es) 0 e (omega arith)), each f es (λ x there. h x (Contains-append_right (e ∷ []) es x there)))

pub each_tabled : (ms : List Mention) (es : Entries) → Tabled ms es → Each (facts_of ms) es
each_tabled ms es t =
    each (facts_of ms) es (λ e there. sym (ap or_unknown (lookup-from_Contains key_laws e.0 e.1 es t.distinct there)) ∙ t.facts e.0.now)

pairs_each : (f : List ℕ → Facts) (es : Entries) → Each f es → pairs es ≡ map (λ name. (name, f name)) (key_names es)
pairs_each f [] h = refl
pairs_each f (e ∷ es) h = ap₂ (λ (v : Facts) (z : Listing). (e.0.now, v) ∷ z) h.0 (pairs_each f es h.1)

settled_each : (f : List ℕ → Facts) (es : Entries) → Each f es → settled es ≡ map (λ name. (name, prevails (f name))) (key_names es)
settled_each f [] h = refl
settled_each f (e ∷ es) h = ap₂ (λ (v : Facts) (z : List (List ℕ × Option ℕ)). (e.0.now, prevails v) ∷ z) h.0 (settled_each f es h.1)

-- the names with what is known of each
pub pairs_tabled : (ms : List Mention) (es : Entries) → Tabled ms es → pairs es ≡ map (λ name. (name, facts_of ms name)) (once (names_of ms))
pairs_tabled ms es t = pairs_each (facts_of ms) es (each_tabled ms es t) ∙ ap (map (λ (name : List ℕ). (name, facts_of ms name))) t.names

-- and with the module that prevails
pub settled_tabled : (ms : List Mention) (es : Entries) → Tabled ms es → settled es ≡ map (λ name. (name, prevailing ms name)) (once (names_of ms))
settled_tabled ms es t = settled_each (facts_of ms) es (each_tabled ms es t) ∙ ap (map (λ (name : List ℕ). (name, prevailing ms name))) t.names
