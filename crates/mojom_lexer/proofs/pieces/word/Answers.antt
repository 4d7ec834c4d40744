use Rattle.mojom_lexer.proofs.Standing.{word_room, slice_len}
use Rattle.mojom_lexer.proofs.pieces.word.Goals as goal

pub slice_bounds-word_sort-end : goal.slice_bounds-word_sort-end
slice_bounds-word_sort-end c = slice_len c.args.bytes.now c.run_len-len.result (word_room c.args.bytes.now c.run_len-len.result c.run_len-len.ensures)
