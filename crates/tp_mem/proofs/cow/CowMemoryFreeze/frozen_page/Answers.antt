use Rattle.std.proofs.Common.{◌≡◌, ◌<◌, ℕ, List, None, length, get_or, sym, ap, subst, ◌∙◌, arith}
use Rattle.std.specs.Prelude.{IfSome}
use Rattle.std.proofs.lemmas.List.{get_or_default}
use Rattle.tp_mem.specs.Contents.{page_of}
use Rattle.tp_mem.specs.Copies.{Paged, frozen_bytes, frozen_of}
use Rattle.tp_mem.proofs.Copies.{AreCopies-at}
use Rattle.tp_mem.proofs.Written.{frozen_page_is, IfSome-map}
use Rattle.tp_mem.proofs.cow.CowMemoryFreeze.frozen_page.Goals as goal

pub bytes-requires : goal.bytes-requires
bytes-requires c =
    let v = c.self.inside in let i = c.self.invariant in
    let within : c.args.page < length v.copies.items = omega (arith, c.requires.inside, i.whole, ap (λ (m : Paged). length m.live) c.self.view_is) in
    let at = get_or_default v.copies.items c.args.page None c.index.result.now within ∙ sym c.index.ensures ∙ c.in-Some.is in
    record { held = omega (arith, (AreCopies-at v.pool v.copies.items c.args.page c.in-Some.id i.own at).0) }

pub returns-in-Some : goal.returns-in-Some
returns-in-Some c =
    let v = c.self.inside in let i = c.self.invariant in
    let within : c.args.page < length v.copies.items = omega (arith, c.requires.inside, i.whole, ap (λ (m : Paged). length m.live) c.self.view_is) in
    let at = get_or_default v.copies.items c.args.page None c.index.result.now within ∙ sym c.index.ensures ∙ c.in-Some.is in
    subst (λ (m : Paged). IfSome m.frozen (λ kept. c.bytes.result.now ≡ page_of kept c.args.page)) c.self.view_is
    (IfSome-map {A = List ℕ} (frozen_of v.is_frozen v.live v.copies.items v.pool) (λ kept. page_of kept c.args.page ≡ frozen_bytes c.args.page v.live (get_or v.copies.items c.args.page None) v.pool) (λ kept. c.bytes.result.now ≡ page_of kept c.args.page) (λ kept here. c.bytes.ensures.bytes ∙ sym (here ∙ ap (λ copy. frozen_bytes c.args.page v.live copy v.pool) at)) (frozen_page_is v.live v.shared.items v.copies.items v.pool v.is_frozen c.args.page i within))

pub returns-in-None : goal.returns-in-None
returns-in-None c =
    let v = c.self.inside in let i = c.self.invariant in
    let within : c.args.page < length v.copies.items = omega (arith, c.requires.inside, i.whole, ap (λ (m : Paged). length m.live) c.self.view_is) in
    let at = get_or_default v.copies.items c.args.page None c.index.result.now within ∙ sym c.index.ensures ∙ c.in-None.is in
    subst (λ (m : Paged). IfSome m.frozen (λ kept. c.page_at.result.now ≡ page_of kept c.args.page)) c.self.view_is
    (IfSome-map {A = List ℕ} (frozen_of v.is_frozen v.live v.copies.items v.pool) (λ kept. page_of kept c.args.page ≡ frozen_bytes c.args.page v.live (get_or v.copies.items c.args.page None) v.pool) (λ kept. c.page_at.result.now ≡ page_of kept c.args.page) (λ kept here. c.page_at.ensures.value ∙ ap (λ bytes. page_of bytes c.args.page) c.as_slice.ensures.value ∙ sym (here ∙ ap (λ copy. frozen_bytes c.args.page v.live copy v.pool) at)) (frozen_page_is v.live v.shared.items v.copies.items v.pool v.is_frozen c.args.page i within))
