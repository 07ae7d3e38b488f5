use Rattle.std.proofs.Common.{◌≡◌, true, refl, sym, subst, ap, ◌∙◌, ◌≤◌, arith}
use Rattle.tp_flush.proofs.Lower.{AreTrue, RaiserValue, unrisen, IsFirst, is_roomy, NodeState, MarkedNetwork, true≢false}
use Rattle.tp_flush.specs.declared.progress.Progress.{Progress}
use Rattle.tp_flush.specs.Progress.{not_begun}
use Rattle.tp_flush.specs.Known.{Known}
use Rattle.tp_flush.specs.Flushing.{IsOfDevice, KeepsWorld}
use Rattle.tp_flush.proofs.Closed.{none_out}
use Rattle.tp_flush.proofs.Begins.{begun, begun_is, first_keeps}
use Rattle.tp_flush.proofs.Devices.{first_device}
use Rattle.tp_flush.proofs.Gone.{gone_none}
use Rattle.tp_flush.proofs.Forms.{holds_same}
use Rattle.tp_flush.proofs.Breaking.{where_whole}
use Rattle.tp_flush.proofs.flusher.Flusher.over.Goals as goal

pub invariant_of-result-2 : goal.invariant_of-result-2
invariant_of-result-2 g c =
    let s = g.D.Disk.state c.args.store.disk in
    let key = c.args.key.value in
    let place = c.args.store.place in
    let broken = c.args.store.broken in
    let raiser = c.over.result in
    let raised = c.over.ensures ∙ c.requires.raiser in (
      c.requires.name,
      ap (λ (r : RaiserValue). r.mark) raised,
      subst (λ (k : Known). IsFirst key k.world) (sym c.of-whole.ensures) (record { net = refl; base = refl; journal = refl }),
      subst (λ (k : Known). KeepsWorld (AreTrue (g.D.Disk.reads c.args.store.disk)) g.J.Naming.formatted g.J.Naming.before k s place broken raiser) (sym c.of-whole.ensures)
          (first_keeps g.J.Naming.before key.net key.base key.journal c.args.opened.value s.now.bytes place.next c.requires.told.net c.requires.told.base c.requires.told.journal c.requires.next
          (AreTrue (g.D.Disk.reads c.args.store.disk)) g.J.Naming.formatted s place broken raiser refl refl c.requires.unbroken (ap (λ (r : RaiserValue). r.at) raised ∙ sym c.requires.next) (ap (λ (r : RaiserValue). r.rises) raised ∙ ap unrisen (sym c.requires.next)) c.requires.read c.requires.synced),
      record {
        roomy = (λ i. is_roomy (c.requires.topology i) (c.requires.areas i).length) ∙ c.requires.roomy;
        closed = λ k unbroken cleared. let no : not_begun.cleared ≡ true = subst (λ (p : Progress). p.cleared ≡ true) c.new.ensures cleared in cc;
        images = λ k unbroken i there out. absurd (true≢false (sym out ∙ none_out c.new.result c.new.ensures i));
      },
      subst (λ (k : Known). IsOfDevice (AreTrue (g.D.Disk.reads c.args.store.disk)) g.J.Naming.room k.world s place broken c.args.topology) (sym c.of-whole.ensures)
          (first_device (AreTrue (g.D.Disk.reads c.args.store.disk)) g.J.Naming.room (begun g.J.Naming.before key.net key.base key.journal s.now.bytes place.next) s place broken c.args.topology c.args.opened.value c.requires.topology c.requires.areas c.requires.told.base
          (ap (λ (n : MarkedNetwork NodeState). n.start) c.requires.told.net) (record { cut = c.requires.cut; bytes = c.requires.bytes }) c.requires.bound c.requires.read),
      subst (λ (k : Known). g.J.Naming.first ≤ k.world.stored) (sym c.of-whole.ensures) (omega (arith, c.requires.first, c.requires.next)),
      subst (λ (k : Known). key.numbered_from ≤ k.world.stored) (sym c.of-whole.ensures) (omega (arith, c.requires.numbered, c.requires.first, c.requires.next)),
      holds_same place.form key.form c.requires.form,
      where_whole broken key _ c.requires.whole c.requires.unbroken,
      gone_none c.of-whole.result.known.world.net key.frozen c.new.result c.new.ensures,
    )

pub returns-clause-world : goal.returns-clause-world
returns-clause-world g c =
    let s = g.D.Disk.state c.args.store.disk in
    let key = c.args.key.value in
    ap (λ (k : Known). k.world) c.of-whole.ensures
    ∙ begun_is g.J.Naming.before key.net key.base key.journal c.args.opened.value s.now.bytes c.args.store.place.next c.requires.told.net c.requires.told.base c.requires.told.journal c.requires.next
