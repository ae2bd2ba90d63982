use Rattle.std.proofs.Common.{◌≡◌, ◌∙◌, ℕ, List, false, length, sym, subst}
use Rattle.std.proofs.lemmas.Bool.{not-false, not-true}
use Rattle.std.specs.List.{list_any}
use Rattle.emit.specs.Graphs.{IsNumber, Linked}
use Rattle.emit.proofs.Linking.{alike, linked_more, linked_same, long_more, long_same, number_stays, stored}
use Rattle.emit.proofs.graph.Graph.number_of.Goals as goal

-- ---- a new name

pub returns-in_ok-push-clause-long : goal.returns-in_ok-push-clause-long
returns-in_ok-push-clause-long c =
    let free : list_any (alike c.args.name) c.args.self.now.names.keys ≡ false =
    not-true (list_any (alike c.args.name) c.args.self.now.names.keys) (sym c.in_ok-place.ensures.added ∙ c.if-is_new.true) in
    subst (λ (rows : List (List ℕ)). length rows ≡ length c.insert_full.new.self.keys) (sym c.in_ok-push.ensures.items)
    (long_more c.args.self.now.names.keys c.insert_full.new.self.keys c.args.name c.args.self.now.rows.items c.new-none.result c.in_ok-place.ensures.keys free c.requires)

pub returns-in_ok-push-clause-number : goal.returns-in_ok-push-clause-number
returns-in_ok-push-clause-number c =
    subst (IsNumber c.insert_full.new.self.keys c.args.name.now) (sym c.in_ok-number.ensures)
    (stored c.insert_full.new.self.keys c.args.name c.in_ok-place.ensures.stored.0 c.in_ok-place.place c.in_ok-place.ensures.stored.1 c.in_ok-place.ensures.stored.2)

pub returns-in_ok-push-clause-stays : goal.returns-in_ok-push-clause-stays
returns-in_ok-push-clause-stays c = number_stays c.args.self.now.names.keys c.insert_full.new.self.keys c.args.name c.in_ok-place.ensures.keys

pub returns-in_ok-push-clause-linked : goal.returns-in_ok-push-clause-linked
returns-in_ok-push-clause-linked c = λ es l.
    let free : list_any (alike c.args.name) c.args.self.now.names.keys ≡ false =
    not-true (list_any (alike c.args.name) c.args.self.now.names.keys) (sym c.in_ok-place.ensures.added ∙ c.if-is_new.true) in
    subst (λ (rows : List (List ℕ)). Linked es c.insert_full.new.self.keys rows) (sym c.in_ok-push.ensures.items)
    (linked_more es c.args.self.now.names.keys c.insert_full.new.self.keys c.args.name c.args.self.now.rows.items c.new-none.result c.in_ok-place.ensures.keys free c.new-none.ensures l)

-- ---- a name that was there

pub returns-else-is_new-clause-long : goal.returns-else-is_new-clause-long
returns-else-is_new-clause-long c =
    long_same c.args.self.now.names.keys c.insert_full.new.self.keys c.args.name c.args.self.now.rows.items c.in_ok-place.ensures.keys
    (not-false (list_any (alike c.args.name) c.args.self.now.names.keys) (sym c.in_ok-place.ensures.added ∙ c.if-is_new.false)) c.requires

pub returns-else-is_new-clause-number : goal.returns-else-is_new-clause-number
returns-else-is_new-clause-number c =
    subst (IsNumber c.insert_full.new.self.keys c.args.name.now) (sym c.in_ok-number.ensures)
    (stored c.insert_full.new.self.keys c.args.name c.in_ok-place.ensures.stored.0 c.in_ok-place.place c.in_ok-place.ensures.stored.1 c.in_ok-place.ensures.stored.2)

pub returns-else-is_new-clause-stays : goal.returns-else-is_new-clause-stays
returns-else-is_new-clause-stays c = number_stays c.args.self.now.names.keys c.insert_full.new.self.keys c.args.name c.in_ok-place.ensures.keys

pub returns-else-is_new-clause-linked : goal.returns-else-is_new-clause-linked
returns-else-is_new-clause-linked c =
    λ es l. linked_same es c.args.self.now.names.keys c.insert_full.new.self.keys c.args.name c.args.self.now.rows.items c.in_ok-place.ensures.keys
    (not-false (list_any (alike c.args.name) c.args.self.now.names.keys) (sym c.in_ok-place.ensures.added ∙ c.if-is_new.false)) l
