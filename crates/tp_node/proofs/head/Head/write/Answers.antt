use Rattle.std.proofs.Common.{◌≡◌, ◌+◌, ◌-◌, ◌*◌, ◌∷◌, ◌++◌, length, drop, refl, ap, ◌∙◌, arith}
use Rattle.tp_node.proofs.Lower.{append_assoc, length-append, flat_map, IMAGE_VERSION, bit, u16_bytes, u32_bytes, out_end_bytes, in_end_bytes, words_of, halt_byte, state_byte, image_head, length-out_end, length-in_end}
use borrow.Rule.Slice.PartMut.{put_mid}
use Rattle.tp_node.proofs.Pieces.{piece_behind, length-pieces}
use Rattle.tp_node.proofs.head.Head.write.Goals as goal

pub returns : goal.returns
unfolding image_head
returns c memory pages =
    let old = c.args.out.now in
    let head = c.args.self.now in
    let front = IMAGE_VERSION ∷ halt_byte head.cpu.halt ∷ u16_bytes c.args.pages in
    let words = flat_map u32_bytes (words_of head.cpu) in
    let middle = bit head.cpu.regs.error ∷ state_byte head.cpu.state ∷ u16_bytes head.cpu.slice in
    let outputs = flat_map out_end_bytes head.outputs in
    let inputs = flat_map in_end_bytes head.inputs in
    let four : length head.outputs ≡ 4 = omega arith in
    let four_in : length head.inputs ≡ 4 = omega arith in
    let size_out : length outputs ≡ 64 = length-pieces out_end_bytes 16 length-out_end head.outputs ∙ ap (λ n. 16 * n) four in
    let size_in : length inputs ≡ 64 = length-pieces in_end_bytes 16 length-in_end head.inputs ∙ ap (λ n. 16 * n) four_in in
    let o1 = c.put_four.new.out in
    let o2 = put_mid 4 (length o1 - 4) o1 c.put_words.new.out in
    let o3 = put_mid 40 (length o2 - 40) o2 c.put_four-2.new.out in
    let o4 = put_mid 44 (length o3 - 44) o3 c.put_outputs.new.out in
    let s1 : o1 ≡ front ++ drop 4 old = rw c.halt_byte.ensures at c.put_four.ensures in
    let s2 : o2 ≡ (front ++ words) ++ drop 40 old =
    piece_behind 4 36 (length o1 - 4) front words old o1 c.put_words.new.out refl refl s1 (rw c.words_of.ensures at c.put_words.ensures) in
    let s3 : o3 ≡ ((front ++ words) ++ middle) ++ drop 44 old =
    piece_behind 40 4 (length o2 - 40) (front ++ words) middle old o2 c.put_four-2.new.out refl refl s2 (rw (c.from.ensures, c.state_byte.ensures) at c.put_four-2.ensures) in
    let s4 : o4 ≡ (((front ++ words) ++ middle) ++ outputs) ++ drop 108 old =
    piece_behind 44 64 (length o3 - 44) ((front ++ words) ++ middle) outputs old o3 c.put_outputs.new.out refl refl s3 (rw four at c.put_outputs.ensures) in
    let s5 = piece_behind 108 64 (length o4 - 108) (((front ++ words) ++ middle) ++ outputs) inputs old o4 c.put_inputs.new.out (length-append ((front ++ words) ++ middle) outputs ∙ ap (λ n. 44 + n) size_out) refl s4 (rw four_in at c.put_inputs.ensures) in
    rw pages (s5 ∙ simp append_assoc)
