-- When a batch has to be done, and when refused.
use Rattle.std.proofs.Common.{ℕ, ◌≡◌, ◌∙◌, List, [], ◌∷◌, Option, Some, None, ap, arith, inl, inr, length, subst, sym}
use Rattle.std.specs.List.{AllByRecursion}
use Rattle.std.specs.Prelude.{IfSome}
use Rattle.link_one.specs.Laws.{AcceptedIsNotRefused, AcceptedIsOne, RefusedIsOne}
use Rattle.link_one.specs.LinkedLaws.{UnlinkedIsOne}
use Rattle.lto_fault.specs.declared.kind.RefusalKind.{RefusalKind}
use Rattle.lto_fault.specs.declared.refusal.Refusal.{Refusal}
use Rattle.lto_outside.specs.Store.{Store}
use Rattle.lto_words.specs.declared.request.LinkOptions.{LinkOptions}
use Rattle.lto_words.specs.Listing.{IsList}
use Rattle.lto_words.specs.declared.listing.ListedLink.{ListedLink}
use Rattle.lto_words.proofs.OneList as list_laws
use Rattle.thinlto_main.specs.BatchHolding.{AreBadLines, BatchHeld, CanBatch, FirstHeld, HoldBatchBad, HoldBatchUnlinkable, HoldsBadList, HoldsList}
use Rattle.thinlto_main.specs.Holding.{HoldFirstBad, HoldLinkable, HoldUnlinkable}
use Rattle.thinlto_main.proofs.Held.{one_first_bad}
use Rattle.thinlto_main.proofs.HeldLinks.{linkable_bad, linkable_unlinkable, one_unlinkable, unlinkable_bad}

-- what was done could be
pub batch_done : (put : Store → Store → List ListedLink → List (List ℕ) → Type 0) (options : LinkOptions) (list : List ℕ) (trusted : Type 0) (old new : Option Store) → BatchHeld put options list trusted old new
    → IfSome old (CanBatch options list)
batch_done put options list trusted None new h = tt
batch_done put options list trusted (Some old) None h = absurd h
batch_done put options list trusted (Some old) (Some new) h = record { links = h.links; listed = h.listed; each = h.each }

-- ---- the list file

module _ (held : Store) (list : List ℕ) where
  same_bytes : (bytes other : List ℕ) → held list ≡ Some bytes → held list ≡ Some other → bytes ≡ other
  same_bytes bytes other a b = let both : Some bytes ≡ Some other = sym a ∙ b in cc both

  one_links : (links others : List ListedLink) → HoldsList held list links → HoldsList held list others → links ≡ others
  one_links links others a b = list_laws.one_list b.bytes links others (subst (λ (bs : List ℕ). IsList bs links) (same_bytes a.bytes b.bytes a.there.0 b.there.0) a.is) b.is

  read_or_bad : (links : List ListedLink) (line : ℕ) (kind : RefusalKind) → HoldsList held list links → HoldsBadList held list line kind → ⊥
  read_or_bad links line kind a b = by b.fault
    where
      same : a.bytes ≡ b.bytes
      same = same_bytes a.bytes b.bytes a.there.0 b.here

      by : AreBadLines b.bytes line kind → ⊥
      by (inl long) = absurd (omega (arith, ap length same, a.there.1, long.0))
      by (inr bad) = list_laws.list_has_no_bad_line b.bytes links line (subst (λ (bs : List ℕ). IsList bs links) same a.is) bad.1

  one_bad_list : (line other : ℕ) (kind another : RefusalKind) → HoldsBadList held list line kind → HoldsBadList held list other another → (line ≡ other) × (kind ≡ another)
  one_bad_list line other kind another a b = by (subst (λ (bs : List ℕ). AreBadLines bs line kind) (same_bytes a.bytes b.bytes a.here b.here) a.fault) b.fault
    where
      by : AreBadLines b.bytes line kind → AreBadLines b.bytes other another → (line ≡ other) × (kind ≡ another)
      by (inl x) (inl y) = (x.1 ∙ sym y.1, x.2 ∙ sym y.2)
      by (inl x) (inr y) = absurd (omega (arith, x.0, y.0))
      by (inr x) (inl y) = absurd (omega (arith, x.0, y.0))
      by (inr x) (inr y) = (list_laws.one_bad_line b.bytes line other x.1 y.1, x.2 ∙ sym y.2)

-- ---- its links

module _ (options : LinkOptions) (held : Store) where
  all_linkable : (P : ListedLink → Type 0) → ((link : ListedLink) → HoldLinkable options link.files held → P link → ⊥) → (links : List ListedLink) → AllByRecursion (λ link. HoldLinkable options link.files held) links → FirstHeld options held P links → ⊥
  all_linkable P never [] all first = first
  all_linkable P never (link ∷ links) all (inl p) = never link all.0 p
  all_linkable P never (link ∷ links) all (inr (good, first)) = all_linkable P never links all.1 first

  both_first : (P Q : ListedLink → Type 0) (R : Type 0) → ((link : ListedLink) → P link → Q link → R) → ((link : ListedLink) → HoldLinkable options link.files held → P link → ⊥) → ((link : ListedLink) → HoldLinkable options link.files held → Q link → ⊥)
      → (links : List ListedLink) → FirstHeld options held P links → FirstHeld options held Q links → R
  both_first P Q R both no_p no_q [] a b = absurd a
  both_first P Q R both no_p no_q (link ∷ links) (inl p) (inl q) = both link p q
  both_first P Q R both no_p no_q (link ∷ links) (inl p) (inr (good, b)) = absurd (no_p link good p)
  both_first P Q R both no_p no_q (link ∷ links) (inr (good, a)) (inl q) = absurd (no_q link good q)
  both_first P Q R both no_p no_q (link ∷ links) (inr (good, a)) (inr (other, b)) = both_first P Q R both no_p no_q links a b

-- ---- a batch

module _ (apart : AcceptedIsNotRefused) (accepted : AcceptedIsOne) (options : LinkOptions) (list : List ℕ) (held : Store) where
  abbrev bad_at : List ℕ → ℕ → RefusalKind → ListedLink → Type 0
  bad_at file line kind link = HoldFirstBad held link.files file line kind

  abbrev unlinkable_at : Refusal → ListedLink → Type 0
  unlinkable_at why link = HoldUnlinkable options link.files held why

  not_bad : (file : List ℕ) (line : ℕ) (kind : RefusalKind) (link : ListedLink) → HoldLinkable options link.files held → bad_at file line kind link → ⊥
  not_bad file line kind link l bad = linkable_bad held options link.files apart file line kind l bad

  not_unlinkable : (why : Refusal) (link : ListedLink) → HoldLinkable options link.files held → unlinkable_at why link → ⊥
  not_unlinkable why link l u = linkable_unlinkable held options link.files accepted why l u

  pub can_batch_bad : (file : List ℕ) (line : ℕ) (kind : RefusalKind) → CanBatch options list held → HoldBatchBad options list held file line kind → ⊥
  can_batch_bad file line kind can (inl bad) = read_or_bad held list can.links line kind can.listed bad.1
  can_batch_bad file line kind can (inr stop) =
      all_linkable options held (bad_at file line kind) (not_bad file line kind) can.links can.each
      (subst (FirstHeld options held (bad_at file line kind)) (one_links held list stop.links can.links stop.listed can.listed) stop.first)

  pub can_batch_unlinkable : (why : Refusal) → CanBatch options list held → HoldBatchUnlinkable options list held why → ⊥
  can_batch_unlinkable why can stop =
      all_linkable options held (unlinkable_at why) (not_unlinkable why) can.links can.each
      (subst (FirstHeld options held (unlinkable_at why)) (one_links held list stop.links can.links stop.listed can.listed) stop.first)

  pub batch_unlinkable_bad : (why : Refusal) (file : List ℕ) (line : ℕ) (kind : RefusalKind) → HoldBatchUnlinkable options list held why → HoldBatchBad options list held file line kind → ⊥
  batch_unlinkable_bad why file line kind u (inl bad) = read_or_bad held list u.links line kind u.listed bad.1
  batch_unlinkable_bad why file line kind u (inr stop) =
      both_first options held (unlinkable_at why) (bad_at file line kind) ⊥ (λ link a b. unlinkable_bad held options link.files apart why file line kind a b) (not_unlinkable why) (not_bad file line kind) u.links u.first
      (subst (FirstHeld options held (bad_at file line kind)) (one_links held list stop.links u.links stop.listed u.listed) stop.first)

  pub one_batch_bad : RefusedIsOne → (file other_file : List ℕ) (line other : ℕ) (kind another : RefusalKind) → HoldBatchBad options list held file line kind → HoldBatchBad options list held other_file other another
      → (file ≡ other_file) × (line ≡ other) × (kind ≡ another)
  one_batch_bad one file other_file line other kind another (inl a) (inl b) =
      let same = one_bad_list held list line other kind another a.1 b.1 in (a.0 ∙ sym b.0, same.0, same.1)
  one_batch_bad one file other_file line other kind another (inl a) (inr b) = absurd (read_or_bad held list b.links line kind b.listed a.1)
  one_batch_bad one file other_file line other kind another (inr a) (inl b) = absurd (read_or_bad held list a.links other another a.listed b.1)
  one_batch_bad one file other_file line other kind another (inr a) (inr b) =
      both_first options held (bad_at file line kind) (bad_at other_file other another) ((file ≡ other_file) × (line ≡ other) × (kind ≡ another))
      (λ link x y. one_first_bad held apart one link.files file other_file line other kind another x y) (not_bad file line kind) (not_bad other_file other another) a.links a.first
      (subst (FirstHeld options held (bad_at other_file other another)) (one_links held list b.links a.links b.listed a.listed) b.first)

  pub one_batch_unlinkable : UnlinkedIsOne → (why other : Refusal) → HoldBatchUnlinkable options list held why → HoldBatchUnlinkable options list held other → other ≡ why
  one_batch_unlinkable law why other a b =
      both_first options held (unlinkable_at why) (unlinkable_at other) (other ≡ why) (λ link x y. one_unlinkable held options link.files accepted law why other x y) (not_unlinkable why) (not_unlinkable other) a.links a.first
      (subst (FirstHeld options held (unlinkable_at other)) (one_links held list b.links a.links b.listed a.listed) b.first)
