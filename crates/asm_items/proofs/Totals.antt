-- How many words items take.
use Rattle.std.proofs.Common.{◌≡◌, ◌+◌, List, [], ◌∷◌, ◌++◌, arith}
use Rattle.asm_items.specs.declared.item.Item.{Item}
use Rattle.asm_items.specs.ItemMeaning.{total_words, words_of}

-- one item more
pub total_words-push : (items : List Item) (item : Item)
    → total_words (items ++ item ∷ []) ≡ total_words items + words_of item
total_words-push [] item = omega arith
total_words-push (first ∷ items) item = omega (arith, total_words-push items item)
