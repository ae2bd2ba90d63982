use Rattle.std.proofs.Common.{◌≡◌, ◌∙◌, ◌<◌, ◌↔◌, true, Bool, ℕ, List, Bor, length, subst, sym, ap, Result, Ok, Err}
use Rattle.std.specs.List.{All, Contains}
use Rattle.std.specs.Prelude.{IfOk}
use Rattle.indexmap.specs.IndexSet.{IndexSet}
use Rattle.combined_index.specs.Rows.{AreBelow, row}
use Rattle.combined_index.specs.Walking.{IsReach}
use Rattle.lto_task.specs.declared.piece.Piece.{Piece}
use Rattle.emit.specs.Graphs.{Linked, edges, is_key, is_marked}
use Rattle.emit.specs.Joins.{IsUsed}
use Rattle.emit.proofs.Keeping.{kept_so, rows_below, starts_below}
use Rattle.emit.proofs.kept.reached_from.Goals as goal

pub reached-requires-clause-rows : goal.reached-requires-clause-rows
reached-requires-clause-rows c =
    subst (λ (rows : List (List ℕ)). AreBelow (length rows) rows) (sym c.deref.ensures.value)
    (rows_below c.args.starts.now c.requires.linked.pieces c.numbers_of.new.self.names.keys c.numbers_of.new.self.rows.items c.in_ok-starts.starts.items
    (c.in_ok-starts.ensures.linked (edges c.requires.linked.pieces) c.requires.linked.linked)
    c.in_ok-starts.ensures.starts)

pub reached-requires-clause-starts : goal.reached-requires-clause-starts
reached-requires-clause-starts c =
    subst (λ (rows : List (List ℕ)). All (λ n. n < length rows) c.deref-2.result.now) (sym c.deref.ensures.value)
    (subst (λ (ns : List ℕ). All (λ n. n < length c.numbers_of.new.self.rows.items) ns) (sym c.deref-2.ensures.value)
    (starts_below c.args.starts.now c.requires.linked.pieces c.numbers_of.new.self.names.keys c.numbers_of.new.self.rows.items c.in_ok-starts.starts.items
    (c.in_ok-starts.ensures.linked (edges c.requires.linked.pieces) c.requires.linked.linked)
    c.in_ok-starts.ensures.starts))

pub marked-requires : goal.marked-requires
marked-requires c =
    let l = c.in_ok-starts.ensures.linked (edges c.requires.linked.pieces) c.requires.linked.linked in
    c.in_ok-marks.ensures.long ∙ ap (λ (rows : List (List ℕ)). length rows) c.deref.ensures.value ∙ l.long
    ∙ sym (ap (λ (keys : List (Bor (List ℕ))). length keys) c.as_slice.ensures.keys)

-- what the last call gives
given : {S E : Type 0} (names keys : List (Bor (List ℕ))) (marks : List Bool) (Is : List Piece → Type 0) (starts : List (List ℕ)) (r : Result (IndexSet (Bor (List ℕ)) S) E)
    → names ≡ keys
    → ((hs : List Piece) → Is hs → (name : List ℕ) → (is_marked keys marks name ≡ true) ↔ IsUsed starts hs name) → IfOk r (λ kept. (name : List ℕ) → is_key kept.keys name ≡ is_marked names marks name)
    → IfOk r (λ kept. (hs : List Piece) → Is hs → (name : List ℕ) → (is_key kept.keys name ≡ true) ↔ IsUsed starts hs name)
given names keys marks Is starts (Ok kept) is all h = λ hs linked name.
    let same : is_key kept.keys name ≡ is_marked keys marks name = h name ∙ ap (λ (ks : List (Bor (List ℕ))). is_marked ks marks name) is in
    (λ t. (all hs linked name).0 (sym same ∙ t), λ k. same ∙ (all hs linked name).1 k)
given names keys marks Is starts (Err e) is all h = tt

pub returns : goal.returns
returns c =
    given c.as_slice.result.now c.numbers_of.new.self.names.keys c.in_ok-marks.marks (λ hs. Linked (edges hs) c.args.graph.now.names.keys c.args.graph.now.rows.items) c.args.starts.now c.marked.result c.as_slice.ensures.keys
    (λ hs linked.
    kept_so c.args.starts.now hs c.numbers_of.new.self.names.keys c.numbers_of.new.self.rows.items c.in_ok-starts.starts.items (c.in_ok-starts.ensures.linked (edges hs) linked)
    c.in_ok-starts.ensures.starts c.in_ok-marks.marks
    (subst (λ (rows : List (List ℕ)). IsReach (Contains c.in_ok-starts.starts.items) (row rows) c.in_ok-marks.marks) c.deref.ensures.value
    (subst (λ (ns : List ℕ). IsReach (Contains ns) (row c.deref.result.now) c.in_ok-marks.marks) c.deref-2.ensures.value c.in_ok-marks.ensures.reached)))
    c.marked.ensures
