use Rattle.std.proofs.Common.{◌≡◌, ◌∙◌, sym, subst}
use Rattle.lps_terms.specs.declared.text.Text.{Text}
use Rattle.lps_antecedents.specs.Waiting.{IsReadyWaiting}
use Rattle.lps_tests_sequences.proofs.antecedents.check_cycles.Goals as goal

pub check_later-requires : goal.check_later-requires
check_later-requires g c =
    let same : c.deref-3.result.now ≡ c.deref.result.now = c.deref-3.ensures ∙ sym c.deref.ensures in
    let there : c.deref_mut.result.now ≡ c.in_ok-waiting.waiting = c.deref_mut.ensures.value ∙ c.in_ok-waiting-2.ensures.ok in
    subst (λ (text : Text). IsReadyWaiting text c.deref_mut.result.now) (sym same) (subst (IsReadyWaiting c.deref.result.now) (sym there) c.in_ok-waiting.ensures)
