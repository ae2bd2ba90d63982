use Rattle.std.proofs.Common.{◌≡◌, ◌∙◌, ℕ, List, ap, subst, sym}
use Rattle.std.specs.Prelude.{slice_index_or}
use Rattle.lto_words.specs.Links.{PutFailed}
use Rattle.lto_words.specs.declared.listing.ListedLink.{ListedLink}
use Rattle.lto_fault.specs.declared.refusal.Refusal.TheVariants.{WriteFault}
use Rattle.thinlto_main.proofs.Batching.{name_at}
use Rattle.thinlto_main.proofs.batch.put.Goals as goal

pub returns-in-Err-clause-failed : goal.returns-in-Err-clause-failed
returns-in-Err-clause-failed g c =
    let items : c.into_vec.result.items ≡ c.as_slice.result.now = c.into_vec.ensures ∙ sym c.as_slice.ensures in
    let here : c.swap_remove.result ≡ slice_index_or c.as_slice.result.now c.in-Err.at c.swap_remove.result = c.swap_remove.ensures.value ∙ ap (λ (l : List ListedLink). slice_index_or l c.in-Err.at c.swap_remove.result) items in
    let link : c.swap_remove.result ≡ c.in-Err.ensures.failed.link = name_at c.as_slice.result.now c.in-Err.at c.in-Err.ensures.failed.link c.swap_remove.result c.in-Err.ensures.failed.of_link here in
    let named : c.into_text.result ≡ c.in-Err.ensures.failed.link.out = c.into_text.ensures ∙ ap (λ (l : ListedLink). l.out) link in (
      c.in-Err.at,
      subst (λ (l : List ListedLink). (f : PutFailed (λ calls. g.F.Files.did c.args.files.now calls c.put_all.new.files) l c.args.texts.now c.in-Err.at) × (WriteFault c.into_text.result ≡ WriteFault f.link.out)) c.as_slice.ensures
          (c.in-Err.ensures.failed, ap (λ (name : List ℕ). WriteFault name) named),
      c.in-Err.ensures.rose,
    )
