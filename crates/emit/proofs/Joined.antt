-- What is joined of the pieces of definitions is the text of their linked module.
use Rattle.std.proofs.Common.{◌≡◌, ◌∙◌, ◌⊎◌, inl, inr, ◌<◌, ◌+◌, ◌&&◌, ◌||◌, not, ℕ, Bool, true, false, cond, if◌then◌else◌, List, [], ◌∷◌, ◌++◌, length, map, filter, get_or, None, codes, append_assoc, nat_eq, refl, sym, ap, ap₂, subst, arith}
use Rattle.std.proofs.lemmas.Bool.{false≢true}
use Rattle.std.proofs.lemmas.Cmp.{nat_list_cmp_total}
use Rattle.std.proofs.lemmas.List.{get_or-map, length-map, map-append}
use Rattle.std.proofs.lemmas.List.Elements.{All-contains, Contains-append_left, filter_agree}
use Rattle.std.proofs.lemmas.List.Sorted.{Contains-permutation, IsPermutation-map, IsPermutation-sym}
use Rattle.std.proofs.lemmas.Map.Text.{is_eq-slice_cmp}
use Rattle.std.proofs.lemmas.Slice.Eq.{bytes_eq-Decides}
use Rattle.std.specs.Cmp.Lexicographic.{slice_cmp}
use Rattle.std.specs.List.{AllZip, Contains, starts_with, swap}
use Rattle.std.specs.List.Sorted.{IsPermutation, IsSortedBy, SwapsInRange, apply_swaps, ties}
use Rattle.std.specs.Ordering.{is_eq, is_lt, nat_cmp, ordering_reverse}
use Rattle.std.specs.Str.{bytes_eq}
use Rattle.std.specs.declared.cmp.Ordering.{Ordering}
use Rattle.std.specs.declared.cmp.Ordering.TheVariants.{Less, Equal, Greater}
use Rattle.indexmap.proofs.ReorderLemmas.{map-swap}
use Rattle.ir_tree.specs.Formed.{Distinct}
use Rattle.ir_tree.specs.Wholes.{global_symbol, symbols}
use Rattle.ir_tree.specs.declared.module.GlobalValue.{GlobalValue}
use Rattle.ir_tree.specs.declared.module.GlobalValue.TheVariants as global
use Rattle.ir_tree.specs.declared.module.Module.{Module}
use Rattle.ir_tree.specs.declared.operand.Symbol.{Symbol}
use Rattle.ir_lex.specs.Pieces.{bytes_of}
use Rattle.ir_print.specs.Modules.{global_value, global_values, module_text, text_of}
use Rattle.ir_summary.specs.References.{global_names}
use Rattle.ir_meaning.specs.Programs.{shared, symbol_of}
use Rattle.lto_task.specs.Pieces.{IsPieceOf}
use Rattle.lto_task.specs.declared.piece.Piece.{Piece}
use Rattle.merge_meaning.specs.Linked.{IsDefinition}
use Rattle.merge_meaning.specs.ByName.{IsInOrder, is_named, name_cmp}
use Rattle.merge_meaning.specs.Hosts.{getchar, putchar}
use Rattle.merge_meaning.proofs.Looked.{others_once, same_symbol}
use Rattle.merge_meaning.proofs.Prevailing.{symbol_by_parts}
use Rattle.merge_meaning.proofs.Standing.{alone, filter_from, first, in_filter, in_map, later, map_from, nothing}
use Rattle.emit.specs.Emissions.{IsEmission, IsKept, exported, in_use, is_variable, outside_in_use, referred, settled}
use Rattle.emit.specs.Joins.{IsInNameOrder, IsJoin, IsUsed, asked, getchar_line, has_piece, host_lines, is_function, line_in_use, lines_of, piece_cmp, putchar_line, referred_by}
use Rattle.emit.specs.Laws.{JoinIsEmission}
use Rattle.emit.proofs.Distinctions.{distinct_filter, distinct_left, distinct_moved, not_again}
use Rattle.emit.proofs.Members.{settled_symbol}
use Rattle.lto_task.proofs.Values.{values_append}
use Rattle.emit.proofs.Printed.{begins_so, behind_header, getchar_printed, putchar_printed, three_groups}
use Rattle.emit.proofs.Sorting.{filter_map}

-- ---- orders of images

-- a list whose image is in another order is itself in another order
pub lifted : {X Y : Type 0} (f : X → Y) (xs : List X) (ys : List Y) → IsPermutation (map f xs) ys → (zs : List X) × (ys ≡ map f zs) × IsPermutation xs zs
lifted {X} {Y} f xs ys moved = (
  apply_swaps xs moved.moves,
  moved.is ∙ swaps moved.moves,
  record { moves = moved.moves; below = subst (λ (n : ℕ). SwapsInRange n moved.moves) (length-map xs f) moved.below; is = refl },
)
  where
    swaps : (ms : List (ℕ × ℕ)) → apply_swaps (map f xs) ms ≡ map f (apply_swaps xs ms)
    swaps [] = refl
    swaps (m ∷ ms) = ap (λ (l : List Y). swap l m.0 m.1) (swaps ms) ∙ sym (map-swap f (apply_swaps xs ms) m.0 m.1)

-- two tests that agree on elements and their images
sorted_so : {X Y Z : Type 0} (f : X → Y) (g : X → Z) (p : Y → Y → Bool) (q : Z → Z → Bool) → ((a b : X) → p (f a) (f b) ≡ q (g a) (g b)) → (xs : List X) → IsSortedBy p (map f xs) → IsSortedBy q (map g xs)
sorted_so f g p q same [] up k d low high = absurd (omega (arith, high))
sorted_so f g p q same (x ∷ xs) up k d low high =
    let inside : k + 1 < length (x ∷ xs) = omega (arith, high, length-map (x ∷ xs) g) in
    let images : k + 1 < length (map f (x ∷ xs)) = omega (arith, inside, length-map (x ∷ xs) f) in
    ap₂ q (get_or-map g (x ∷ xs) (k + 1) x d inside) (get_or-map g (x ∷ xs) k x d (omega arith))
    ∙ sym (same (get_or (x ∷ xs) (k + 1) x) (get_or (x ∷ xs) k x))
    ∙ sym (ap₂ p (get_or-map f (x ∷ xs) (k + 1) x (f x) inside) (get_or-map f (x ∷ xs) k x (f x) (omega arith)))
    ∙ up k (f x) low images

-- ---- values of one name

abbrev lesser : GlobalValue → GlobalValue → Bool
lesser g h = is_lt (name_cmp g h)

tied_names : (a b : List ℕ) → (not (is_lt (slice_cmp nat_cmp a b)) && not (is_lt (slice_cmp nat_cmp b a))) ≡ true → a ≡ b
tied_names a b h = by (slice_cmp nat_cmp a b) refl (slice_cmp nat_cmp b a) (nat_list_cmp_total.antisymm a b) h
  where
    by : (o : Ordering) → slice_cmp nat_cmp a b ≡ o → (r : Ordering) → slice_cmp nat_cmp a b ≡ ordering_reverse r → (not (is_lt (slice_cmp nat_cmp a b)) && not (is_lt r)) ≡ true → a ≡ b
    by Less e r back h = absurd (false≢true (sym (ap (λ (x : Ordering). not (is_lt x) && not (is_lt r)) e) ∙ h))
    by Equal e r back h = (bytes_eq-Decides a b).0 (sym (is_eq-slice_cmp a b) ∙ ap is_eq e)
    by Greater e Less back h = absurd (false≢true (sym (ap (λ (x : Ordering). not (is_lt x) && false) e) ∙ h))
    by Greater e Equal back h = absurd (cc (sym e ∙ back))
    by Greater e Greater back h = absurd (cc (sym e ∙ back))

-- of values that stand once at most one passes a test that values of one symbol alone pass
at_most_one : (p : GlobalValue → Bool) (gs : List GlobalValue) → Distinct (symbols gs) → ((a b : GlobalValue) → Contains gs a → Contains gs b → p a ≡ true → p b ≡ true → global_symbol a ≡ global_symbol b)
    → (filter p gs ≡ []) ⊎ ((g : GlobalValue) × (filter p gs ≡ g ∷ []))
at_most_one p [] once alike = inl refl
at_most_one p (g ∷ gs) once alike = by (p g) refl (at_most_one p gs (others_once (global_symbol g) (symbols gs) once) (λ a b x y. alike a b (later g a gs x) (later g b gs y)))
  where
    by : (b : Bool) → p g ≡ b → (filter p gs ≡ []) ⊎ ((h : GlobalValue) × (filter p gs ≡ h ∷ [])) → (cond b (g ∷ filter p gs) (filter p gs) ≡ []) ⊎ ((h : GlobalValue) × (cond b (g ∷ filter p gs) (filter p gs) ≡ h ∷ []))
    by true on (inl none) = inr (g, ap (λ (l : List GlobalValue). g ∷ l) none)
    by true on (inr (h, one)) =
        let there = filter_from p gs h (subst (λ (l : List GlobalValue). Contains l h) (sym one) (first h [])) in
        absurd (not_again (global_symbol g) (symbols gs) once
        (subst (Contains (symbols gs)) (alike h g (later g h gs there.0) (first g gs) there.1 on) (in_map global_symbol gs h there.0)))
    by false off rest = rest

-- so they are the same in another order
same_filter : (p : GlobalValue → Bool) (gs hs : List GlobalValue) → IsPermutation gs hs → Distinct (symbols gs)
    → ((a b : GlobalValue) → Contains gs a → Contains gs b → p a ≡ true → p b ≡ true → global_symbol a ≡ global_symbol b) → filter p hs ≡ filter p gs
same_filter p gs hs moved once alike =
    by (at_most_one p gs once alike) (at_most_one p hs (distinct_moved gs hs moved once) (λ a b x y. alike a b (back a x) (back b y)))
  where
    back : (g : GlobalValue) → Contains hs g → Contains gs g
    back g h = Contains-permutation hs gs g (IsPermutation-sym gs hs moved) h

    -- one that passes there passes here
    here : (g : GlobalValue) → filter p hs ≡ g ∷ [] → Contains (filter p gs) g
    here g one = let there = filter_from p hs g (subst (λ (l : List GlobalValue). Contains l g) (sym one) (first g [])) in in_filter p gs g (back g there.0) there.1

    there : (g : GlobalValue) → filter p gs ≡ g ∷ [] → Contains (filter p hs) g
    there g one = let at = filter_from p gs g (subst (λ (l : List GlobalValue). Contains l g) (sym one) (first g [])) in in_filter p hs g (Contains-permutation gs hs g moved at.0) at.1

    by : (filter p gs ≡ []) ⊎ ((g : GlobalValue) × (filter p gs ≡ g ∷ [])) → (filter p hs ≡ []) ⊎ ((g : GlobalValue) × (filter p hs ≡ g ∷ [])) → filter p hs ≡ filter p gs
    by (inl none) (inl nothing) = nothing ∙ sym none
    by (inl none) (inr (h, one)) = absurd (nothing h (subst (λ (l : List GlobalValue). Contains l h) none (here h one)))
    by (inr (g, one)) (inl none) = absurd (nothing g (subst (λ (l : List GlobalValue). Contains l g) none (there g one)))
    by (inr (g, one)) (inr (h, other)) =
        let same : g ≡ h = alone g h (subst (λ (l : List GlobalValue). Contains l h) one (here h other)) in
        other ∙ ap (λ (x : GlobalValue). x ∷ []) (sym same) ∙ sym one

-- ---- definitions with their pieces

settled_names : (exports : List (List ℕ)) (g : GlobalValue) → global_names (settled exports g) ≡ global_names g
settled_names exports (global.Variable v) = refl
settled_names exports (global.Function f) = refl

record Done (exports : List (List ℕ)) : Type 0 where
  value : GlobalValue
  piece : Piece
  is : IsPieceOf (settled exports value) piece
  definition : IsDefinition value

module _ (exports : List (List ℕ)) where
  abbrev values_of : List (Done exports) → List GlobalValue
  values_of = map (λ z. z.value)

  abbrev pieces_of : List (Done exports) → List Piece
  pieces_of = map (λ z. z.piece)

  zipped : (hs : List GlobalValue) (ps : List Piece) → AllZip (λ h. IsPieceOf (settled exports h)) hs ps → ((h : GlobalValue) → Contains hs h → IsDefinition h)
      → (zs : List (Done exports)) × (hs ≡ values_of zs) × (ps ≡ pieces_of zs)
  zipped [] [] z is = ([], refl, refl)
  zipped [] (p ∷ ps) z is = absurd z
  zipped (h ∷ hs) [] z is = absurd z
  zipped (h ∷ hs) (p ∷ ps) z is =
      let rest = zipped hs ps z.1 (λ g there. is g (later h g hs there)) in
      (record { value = h; piece = p; is = z.0; definition = is h (first h hs) } ∷ rest.0, ap (λ (l : List GlobalValue). h ∷ l) rest.1, ap (λ (l : List Piece). p ∷ l) rest.2)

  name_of : (z : Done exports) → z.piece.name ≡ (symbol_of z.value).name
  name_of z = z.is.name ∙ ap (λ (s : Symbol). s.name) (same_symbol (settled exports z.value) ∙ settled_symbol exports z.value)

  function_so : (z : Done exports) → is_function z.piece ≡ not (is_variable z.value)
  function_so z = ap (λ (t : List ℕ). starts_with nat_eq t (codes "define ")) z.is.text ∙ begins_so exports z.value z.definition

  -- ---- what is kept

  kept_so : (zs : List (Done exports)) (name : List ℕ) → IsUsed exports (pieces_of zs) name → IsKept exports (values_of zs) name
  kept_so zs name (asked _ h) = exported name h
  kept_so zs name (referred_by p _ there used refers) =
      let found = map_from (λ (z : Done exports). z.piece) zs p there in
      referred found.0.value name (in_map (λ (z : Done exports). z.value) zs found.0 found.1)
      (subst (IsKept exports (values_of zs)) (ap (λ (q : Piece). q.name) (sym found.2) ∙ name_of found.0) (kept_so zs p.name used))
      (subst (λ (names : List (List ℕ)). Contains names name) (settled_names exports found.0.value)
      ((found.0.is.refers name).0 (subst (λ (q : Piece). Contains q.refs name) (sym found.2) refers)))

  used_so : (zs : List (Done exports)) (name : List ℕ) → IsKept exports (values_of zs) name → IsUsed exports (pieces_of zs) name
  used_so zs name (exported _ h) = asked name h
  used_so zs name (referred g _ there kept names) =
      let found = map_from (λ (z : Done exports). z.value) zs g there in
      referred_by found.0.piece name (in_map (λ (z : Done exports). z.piece) zs found.0 found.1)
      (subst (IsUsed exports (pieces_of zs)) (ap (λ (h : GlobalValue). (symbol_of h).name) (sym found.2) ∙ sym (name_of found.0)) (used_so zs (symbol_of g).name kept))
      ((found.0.is.refers name).1
      (subst (λ (ns : List (List ℕ)). Contains ns name) (ap global_names (sym found.2) ∙ sym (settled_names exports found.0.value)) names))

  -- ---- groups

  module _ (keeps : List ℕ → Bool) (such : Piece → Bool) (suits : GlobalValue → Bool) (agree : (z : Done exports) → such z.piece ≡ suits z.value) (zs : List (Done exports)) where
    abbrev chosen : List (Done exports)
    chosen = filter (λ z. keeps z.piece.name && such z.piece) zs

    abbrev before : List GlobalValue
    before = filter (λ h. keeps (symbol_of h).name && suits h) (values_of zs)

    pieces_are : filter (λ p. keeps p.name && such p) (pieces_of zs) ≡ pieces_of chosen
    pieces_are = filter_map (λ (z : Done exports). z.piece) (λ p. keeps p.name && such p) zs

    values_are : before ≡ values_of chosen
    values_are =
        filter_map (λ (z : Done exports). z.value) (λ h. keeps (symbol_of h).name && suits h) zs
        ∙ ap values_of
        (filter_agree (λ (z : Done exports). keeps (symbol_of z.value).name && suits z.value) (λ (z : Done exports). keeps z.piece.name && such z.piece)
        (λ z. sym (ap₂ (λ (a b : Bool). a && b) (ap keeps (name_of z)) (agree z))) zs)

    group : (after : List Piece) → IsInNameOrder (filter (λ p. keeps p.name && such p) (pieces_of zs)) after → Distinct (symbols before)
        → ((a b : GlobalValue) → Contains before a → Contains before b → (symbol_of a).name ≡ (symbol_of b).name → global_symbol a ≡ global_symbol b)
        → (ys : List (Done exports)) × (after ≡ pieces_of ys) × IsInOrder before (values_of ys)
    group after order once alike =
        let moved = lifted (λ (z : Done exports). z.piece) chosen after (subst (λ (l : List Piece). IsPermutation l after) pieces_are order.same) in
        let same : IsPermutation before (values_of moved.0) =
        subst (λ (l : List GlobalValue). IsPermutation l (values_of moved.0)) (sym values_are) (IsPermutation-map (λ (z : Done exports). z.value) chosen moved.0 moved.2) in (
          moved.0,
          moved.1,
          record {
            same = same;
            sorted =
                sorted_so (λ (z : Done exports). z.piece) (λ (z : Done exports). z.value) (λ (p q : Piece). is_lt (piece_cmp p q)) lesser
                (λ a b. ap₂ (λ (m n : List ℕ). is_lt (slice_cmp nat_cmp m n)) (name_of a) (name_of b)) moved.0
                (subst (λ (l : List Piece). IsSortedBy (λ (p q : Piece). is_lt (piece_cmp p q)) l) moved.1 order.sorted);
            stable = λ x. same_filter (ties lesser x) before (values_of moved.0) same once (λ a b at_a at_b ties_a ties_b.
                alike a b at_a at_b (sym (tied_names (symbol_of x).name (symbol_of a).name ties_a) ∙ tied_names (symbol_of x).name (symbol_of b).name ties_b));
          },
        )

  -- ---- texts

  lines_are : (ys : List (Done exports)) → lines_of (pieces_of ys) ≡ text_of (global_values (map (settled exports) (values_of ys)))
  lines_are [] = refl
  lines_are (y ∷ ys) =
      ap₂ (λ (a b : List ℕ). a ++ b) y.is.text (lines_are ys)
      ∙ append_assoc (bytes_of (global_value (settled exports y.value))) (10 ∷ []) (text_of (global_values (map (settled exports) (values_of ys))))

  named_so : (zs : List (Done exports)) (name : List ℕ) → has_piece (pieces_of zs) name ≡ is_named (values_of zs) name
  named_so [] name = refl
  named_so (z ∷ zs) name = ap₂ (λ (a b : Bool). a || b) (ap (λ (n : List ℕ). bytes_eq n name) (name_of z)) (named_so zs name)

  module _ (keeps : List ℕ → Bool) (zs : List (Done exports)) where
    line_is : (g : GlobalValue) (line : List ℕ) → line ≡ text_of (global_values (g ∷ [])) → line_in_use keeps (pieces_of zs) (symbol_of g).name line ≡ text_of (global_values (in_use keeps (values_of zs) g))
    line_is g line is =
        ap (λ (b : Bool). if keeps (symbol_of g).name && not b then line else []) (named_so zs (symbol_of g).name)
        ∙ by (keeps (symbol_of g).name && not (is_named (values_of zs) (symbol_of g).name))
      where
        by : (b : Bool) → (if b then line else []) ≡ text_of (global_values (if b then g ∷ [] else []))
        by true = is
        by false = refl

    hosts_are : host_lines keeps (pieces_of zs) ≡ text_of (global_values (outside_in_use keeps (values_of zs)))
    hosts_are =
        ap₂ (λ (a b : List ℕ). a ++ b) (line_is getchar getchar_line getchar_printed) (line_is putchar putchar_line putchar_printed)
        ∙ sym (values_append (in_use keeps (values_of zs) getchar) (in_use keeps (values_of zs) putchar))

  -- ---- the linked module

  emitted : (zs : List (Done exports)) (m : Module) (text : List ℕ) → Distinct (symbols (values_of zs))
      → ((a b : GlobalValue) → Contains (values_of zs) a → Contains (values_of zs) b → (symbol_of a).name ≡ (symbol_of b).name → global_symbol a ≡ global_symbol b)
      → IsJoin exports (pieces_of zs) (module_text (record m { globals = [] })) text → (ks : List GlobalValue) × IsEmission exports (values_of zs) ks × (text ≡ module_text (record m { globals = ks }))
  emitted zs m text once alike j =
      let inside : (p : GlobalValue → Bool) (a b : GlobalValue) → Contains (filter p (values_of zs)) a → Contains (filter p (values_of zs)) b → (symbol_of a).name ≡ (symbol_of b).name → global_symbol a ≡ global_symbol b =
      λ p a b x y. alike a b (filter_from p (values_of zs) a x).0 (filter_from p (values_of zs) b y).0 in
      let vs =
      group j.keeps (λ p. not (is_function p)) is_variable (λ z. ap not (function_so z) ∙ twice (is_variable z.value)) zs j.variables j.variables_are
      (distinct_filter (λ h. j.keeps (symbol_of h).name && is_variable h) (values_of zs) once) (inside (λ h. j.keeps (symbol_of h).name && is_variable h)) in
      let fs =
      group j.keeps is_function (λ h. not (is_variable h)) function_so zs j.functions j.functions_are
      (distinct_filter (λ h. j.keeps (symbol_of h).name && not (is_variable h)) (values_of zs) once) (inside (λ h. j.keeps (symbol_of h).name && not (is_variable h))) in
      let ks : List GlobalValue = map (settled exports) (values_of vs.0) ++ (outside_in_use j.keeps (values_of zs) ++ map (settled exports) (values_of fs.0)) in (
        ks,
        record {
          keeps = j.keeps;
          kept = λ name. (λ on. kept_so zs name ((j.kept name).0 on), λ k. (j.kept name).1 (used_so zs name k));
          variables = values_of vs.0;
          variables_are = vs.2;
          functions = values_of fs.0;
          functions_are = fs.2;
          is = refl;
        },
        j.is
            ∙ ap (λ (t : List ℕ). module_text (record m { globals = [] }) ++ t)
            (ap₂ (λ (a b : List ℕ). a ++ (host_lines j.keeps (pieces_of zs) ++ b)) (ap lines_of vs.1 ∙ lines_are vs.0) (ap lines_of fs.1 ∙ lines_are fs.0)
            ∙ ap (λ (t : List ℕ). text_of (global_values (map (settled exports) (values_of vs.0))) ++ (t ++ text_of (global_values (map (settled exports) (values_of fs.0))))) (hosts_are j.keeps zs)
            ∙ sym (three_groups (map (settled exports) (values_of vs.0)) (outside_in_use j.keeps (values_of zs)) (map (settled exports) (values_of fs.0))))
            ∙ behind_header m ks,
      )
    where
      twice : (b : Bool) → not (not b) ≡ b
      twice true = refl
      twice false = refl

pub is_emission : JoinIsEmission
is_emission exports hs hosts pieces m text l z j =
    let both = zipped exports hs pieces z (λ h there. All-contains IsDefinition hs h l.definitions there) in
    let made =
    emitted exports both.0 m text (subst (λ (gs : List GlobalValue). Distinct (symbols gs)) both.1 once)
    (subst (λ (gs : List GlobalValue). (a b : GlobalValue) → Contains gs a → Contains gs b → (symbol_of a).name ≡ (symbol_of b).name → global_symbol a ≡ global_symbol b) both.1 alike)
    (subst (λ (ps : List Piece). IsJoin exports ps (module_text (record m { globals = [] })) text) both.2 j) in
    (made.0, subst (λ (gs : List GlobalValue). IsEmission exports gs made.0) (sym both.1) made.1, made.2)
  where
    once : Distinct (symbols hs)
    once = distinct_left (symbols hs) (symbols hosts) (subst (λ (ss : List Symbol). Distinct ss) (map-append global_symbol hs hosts) l.once)

    homeless : (h : GlobalValue) → Contains hs h → global_symbol h ≡ shared (global_symbol h).name
    homeless h there =
        symbol_by_parts (global_symbol h) (shared (global_symbol h).name)
        (All-contains (λ (s : Symbol). s.home ≡ None) (symbols (hs ++ hosts)) (global_symbol h) l.homeless (in_map global_symbol (hs ++ hosts) h (Contains-append_left hs hosts h there))) refl

    alike : (a b : GlobalValue) → Contains hs a → Contains hs b → (symbol_of a).name ≡ (symbol_of b).name → global_symbol a ≡ global_symbol b
    alike a b at_a at_b same =
        homeless a at_a
        ∙ ap (λ (n : List ℕ). shared n) (ap (λ (s : Symbol). s.name) (same_symbol a) ∙ same ∙ ap (λ (s : Symbol). s.name) (sym (same_symbol b)))
        ∙ sym (homeless b at_b)
