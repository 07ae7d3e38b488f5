use Rattle.std.proofs.Common.{◌∙◌, ℕ, Global, map, length, sym}
use Rattle.std.specs.Prelude.{Vec}
use Rattle.tp_work.proofs.Lower.{map-id, YieldsList-from_vec, YieldsList-end, YieldsList-turn, node_at, node_of, NodeState}
use Rattle.tp_work.proofs.Made.{each_spelt, made_more, made_live, made_each, made_frames, made_all}
use Rattle.tp_work.proofs.nodes.nodes_of.Goals as goal

abbrev node_behind : Vec ℕ Global → NodeState
node_behind image = node_at image.items

pub node_in-requires : goal.node_in-requires
node_in-requires c =
    let images = c.args.state.net.images.items in
    let gives = c.into_iter-image-iterator.ensures.into_iter_gives in
    let turn = YieldsList-turn (YieldsList-from_vec {s = c.into_iter-image-iterator.result} images gives.0 (gives.1 ∙ c.args.state.net.images.ok.0)) c.loop-image.yielded c.loop-image.image-iterator c.loop-image.yielded_by c.next.result c.next.new.self c.in-Some.image c.in-Some.is c.next.ensures.steps in
    let here = each_spelt node_behind (λ (image : Vec ℕ Global). node_of image.items) images (length c.loop-image.yielded) c.in-Some.image turn.0 turn.1 c.requires.images in
    rw c.deref.ensures.value here

pub loop-image-preserved : goal.loop-image-preserved
loop-image-preserved c =
    made_more c.args.spare node_behind c.loop-image.yielded c.in-Some.image c.in_ok-node_in.field-0 c.loop-image.nodes.items c.push.new.self.items
    c.loop-image.invariant (rw c.deref.ensures.value at c.in_ok-node_in.ensures) c.in_ok-push.ensures.items

pub returns-clause-live : goal.returns-clause-live
returns-clause-live c =
    let images = c.args.state.net.images.items in
    let gives = c.into_iter-image-iterator.ensures.into_iter_gives in
    let all = YieldsList-end (YieldsList-from_vec {s = c.into_iter-image-iterator.result} images gives.0 (gives.1 ∙ c.args.state.net.images.ok.0)) c.loop-image.yielded c.loop-image.image-iterator c.loop-image.yielded_by c.next.result c.next.new.self c.in-None.is c.next.ensures.steps in
    made_live c.args.spare (map node_behind images) c.loop-image.nodes.items (made_all c.args.spare node_behind c.loop-image.yielded images c.loop-image.nodes.items (sym (map-id c.loop-image.yielded) ∙ all.0) c.loop-image.invariant)

pub returns-clause-each : goal.returns-clause-each
returns-clause-each c =
    let images = c.args.state.net.images.items in
    let gives = c.into_iter-image-iterator.ensures.into_iter_gives in
    let all = YieldsList-end (YieldsList-from_vec {s = c.into_iter-image-iterator.result} images gives.0 (gives.1 ∙ c.args.state.net.images.ok.0)) c.loop-image.yielded c.loop-image.image-iterator c.loop-image.yielded_by c.next.result c.next.new.self c.in-None.is c.next.ensures.steps in
    made_each c.args.spare (map node_behind images) c.loop-image.nodes.items (made_all c.args.spare node_behind c.loop-image.yielded images c.loop-image.nodes.items (sym (map-id c.loop-image.yielded) ∙ all.0) c.loop-image.invariant)

pub returns-clause-frames : goal.returns-clause-frames
returns-clause-frames c =
    let images = c.args.state.net.images.items in
    let gives = c.into_iter-image-iterator.ensures.into_iter_gives in
    let all = YieldsList-end (YieldsList-from_vec {s = c.into_iter-image-iterator.result} images gives.0 (gives.1 ∙ c.args.state.net.images.ok.0)) c.loop-image.yielded c.loop-image.image-iterator c.loop-image.yielded_by c.next.result c.next.new.self c.in-None.is c.next.ensures.steps in
    made_frames c.args.spare (map node_behind images) c.loop-image.nodes.items (made_all c.args.spare node_behind c.loop-image.yielded images c.loop-image.nodes.items (sym (map-id c.loop-image.yielded) ∙ all.0) c.loop-image.invariant)
