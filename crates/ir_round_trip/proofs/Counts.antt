-- The counts of arrays in a shape that expands are below 2^64, where those that are written are.
use Rattle.std.proofs.Common.{◌≡◌, ℕ, zero, suc, ◌+◌, ◌^◌, Bool, true, false, cond, nat_le, Option, Some, None, Result, Ok, Err, List, [], ◌∷◌, length, refl, subst}
use Rattle.std.specs.List.{AllByRecursion as Each}
use Rattle.ir_lex.specs.Tok.{Tok}
use Rattle.ir_parse_names.specs.Keys.{Key, key_of, same_key}
use Rattle.ir_parse_names.specs.Resolving.{◌>>=◌, each}
use Rattle.ir_parse_names.specs.Types.{Types, or_unknown, entry_of, entry_in, shape_in, head_from, head_of, is_width, limit, scalar, within, opened, without_parts, expand, expanded}
use Rattle.ir_parse_names.specs.declared.fault.Fault.{Fault}
use Rattle.ir_parse_parts.specs.Shapes as w
use Rattle.ir_parse_parts.specs.Shapes.{Written, WrittenParts}
use Rattle.ir_parse_parts.specs.declared.shape.Typed.{Typed}
use Rattle.ir_tree.specs.Forms.{Form, int, array, structure, forms_of}
use Rattle.ir_tree.specs.Layout.{size}
use Rattle.ir_round_trip.specs.Spelled.{AllCounted, Counted, TypeCounted}
use Rattle.ir_round_trip.proofs.Stages.{one, took}
use Rattle.ir_round_trip.specs.PartsReadable.{CountsReadable, AllCountsReadable}

abbrev pub TypesCounted : Types → Type 0
TypesCounted types = Each (λ d. TypeCounted d.1) types

-- ---- names of types

entry_counted : (types : Types) (key : Key) (entry : Option Written) → TypesCounted types → entry_of types key ≡ Some entry → TypeCounted entry
entry_counted [] key entry h e = absurd cc
entry_counted (d ∷ ds) key entry h e = by (same_key key d.0) e (entry_counted ds key entry h.1)
  where
    by : (b : Bool) → cond b (Some d.1) (entry_of ds key) ≡ Some entry → (entry_of ds key ≡ Some entry → TypeCounted entry) → TypeCounted entry
    by true e more = let same : d.1 ≡ entry = cc in subst TypeCounted same h.0
    by false e more = more e

known_is : {A : Type 0} (line : ℕ) (o : Option A) (x : A) → or_unknown line o ≡ Ok x → o ≡ Some x
known_is line None x e = absurd cc
known_is line (Some y) x e = let same : y ≡ x = cc in subst (λ z. Some y ≡ Some z) same refl

shape_counted : (types : Types) (name : Tok) (s : Written) → TypesCounted types → shape_in types name ≡ Ok s → Counted s
shape_counted types name s h e =
    let entry = took (entry_in types name) (λ entry. or_unknown name.line entry) s e in
    let c : TypeCounted entry.0 = entry_counted types (key_of name) entry.0 h (known_is name.line (entry_of types (key_of name)) entry.0 entry.1) in
    subst TypeCounted (known_is name.line entry.0 s entry.2) c

head_counted : (n : ℕ) (types : Types) (s r : Written) → TypesCounted types → Counted s → head_from n types s ≡ Ok r → Counted r
head_counted n types (w.int width) r h c e = subst Counted (one e) c
head_counted n types w.pointer r h c e = subst Counted (one e) c
head_counted n types (w.array count of) r h c e = subst Counted (one e) c
head_counted n types (w.structure packed parts) r h c e = subst Counted (one e) c
head_counted zero types (w.named name) r h c e = absurd cc
head_counted (suc n) types (w.named name) r h c e =
    let s = took (shape_in types name) (λ s. head_from n types s) r e in head_counted n types s.0 r h (shape_counted types name s.0 h s.1) s.2

begins_counted : (types : Types) (s r : Written) → TypesCounted types → Counted s → head_of types s ≡ Ok r → Counted r
unfolding head_of
begins_counted types s r h c e = head_counted (length types + 1) types s r h c e

-- ---- one level

scalar_counts : (line width : ℕ) (f : Form) → scalar line width ≡ Ok f → CountsReadable f
scalar_counts line width f e = by (is_width width) e
  where
    by : (b : Bool) → cond b (Ok (int width)) (Err (limit line)) ≡ Ok f → CountsReadable f
    by true e = subst CountsReadable (one e) tt
    by false e = absurd cc

pub within_counts : (line : ℕ) (g f : Form) → CountsReadable g → within line g ≡ Ok f → CountsReadable f
within_counts line g f h e = by (nat_le (size g) (2 ^ 31)) e
  where
    by : (b : Bool) → cond b (Ok g) (Err (limit line)) ≡ Ok f → CountsReadable f
    by true e = subst CountsReadable (one e) h
    by false e = absurd cc

leaf_counts : (line : ℕ) (s : Written) (f : Form) → without_parts line s ≡ Ok f → CountsReadable f
leaf_counts line (w.int width) f e = scalar_counts line width f e
leaf_counts line w.pointer f e = subst CountsReadable (one e) tt
leaf_counts line (w.array count of) f e = absurd cc
leaf_counts line (w.structure packed parts) f e = absurd cc
leaf_counts line (w.named name) f e = absurd cc

parts_counts : (inner : Written → Result Form Fault) → ((s : Written) (f : Form) → Counted s → inner s ≡ Ok f → CountsReadable f) → (parts : WrittenParts) (fs : List Form) → AllCounted parts → each inner (w.list_of parts) ≡ Ok fs → AllCountsReadable (forms_of fs)
parts_counts inner each_one w.no_parts fs c e = subst (λ (gs : List Form). AllCountsReadable (forms_of gs)) (one e) tt
parts_counts inner each_one (w.part s more) fs c e =
    let f = took (inner s) (λ f. each inner (w.list_of more) >>= λ rest. Ok (f ∷ rest)) fs e in
    let rest = took (each inner (w.list_of more)) (λ rest. Ok (f.0 ∷ rest)) fs f.2 in
    subst (λ (gs : List Form). AllCountsReadable (forms_of gs)) (one rest.2) (each_one s f.0 c.0 f.1, parts_counts inner each_one more rest.0 c.1 rest.1)

opened_counts : (inner : Written → Result Form Fault) (line : ℕ) → ((s : Written) (f : Form) → Counted s → inner s ≡ Ok f → CountsReadable f) → (s : Written) (f : Form) → Counted s → opened inner line s ≡ Ok f → CountsReadable f
opened_counts inner line each_one (w.int width) f c e = scalar_counts line width f e
opened_counts inner line each_one w.pointer f c e = subst CountsReadable (one e) tt
opened_counts inner line each_one (w.array count of) f c e =
    let g = took (inner of) (λ g. within line (array count g)) f e in within_counts line (array count g.0) f (c.0, each_one of g.0 c.1 g.1) g.2
opened_counts inner line each_one (w.structure packed parts) f c e =
    let fs = took (each inner (w.list_of parts)) (λ fs. within line (structure packed (forms_of fs))) f e in
    within_counts line (structure packed (forms_of fs.0)) f (parts_counts inner each_one parts fs.0 c fs.1) fs.2
opened_counts inner line each_one (w.named name) f c e = absurd cc

-- ---- all levels

pub expand_counts : (n : ℕ) (types : Types) (line : ℕ) (s : Written) (f : Form) → TypesCounted types → Counted s → expand n types line s ≡ Ok f → CountsReadable f
expand_counts zero types line s f h c e = let r = took (head_of types s) (λ r. without_parts line r) f e in leaf_counts line r.0 f r.2
expand_counts (suc n) types line s f h c e =
    let r = took (head_of types s) (λ r. opened (expand n types line) line r) f e in
    opened_counts (expand n types line) line (λ t g k d. expand_counts n types line t g h k d) r.0 f (begins_counted types s r.0 h c r.1) r.2

pub expanded_counts : (types : Types) (typed : Typed) (f : Form) → TypesCounted types → Counted typed.shape → expanded types typed ≡ Ok f → CountsReadable f
unfolding expanded
expanded_counts types typed f h c e = expand_counts 32 types typed.line typed.shape f h c e
