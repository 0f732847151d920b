-- A card of 32 positions, computed: written and judged. Assumes nothing.
use mathlib.Core.Path.{◌≡◌, refl}
use lib.ListN.{replicate}
use Rattle.base.specs.Lists.{all_of}
use Rattle.bits.specs.Bits.{bits_of, bits_in, number_from, field, packed}
use Rattle.instance.specs.Limits.{max_vertices, max_weight, max_budget, free, cells}
use Rattle.instance.specs.Instance.{Instance, can_be_arc}
use Rattle.card_format.specs.Card.{on_card, bits_needed, bytes_needed, cell_fields, instance_in, cell_refusal, cells_refusal, header_refusal, card_refusal, cell_bits, instance_bits, card_of}

-- 32 vertices, root 31, every arc of the dearest weight and free
unfoldable pub large : Instance
large = record { n = max_vertices; root = 31; budget = max_budget; weights = replicate cells max_weight; marks = replicate cells free }

pub large_opens : card_refusal (card_of large) ≡ 0
unfolding
    large card_of packed instance_bits cell_bits card_refusal header_refusal cells_refusal cell_refusal instance_in cell_fields on_card can_be_arc
    bits_in bits_of field number_from bits_needed bytes_needed all_of
large_opens = refl
