-- Rows that compute once the bits of a number are unfolded.
use Rattle.std.proofs.Common.{refl}
use Rattle.std.specs.Fmt.{digits}
use Rattle.bits_value.specs.Bits.{bit_of, bit_in, bit_list, all_bits}
use Rattle.bits_value.specs.Number.{big_bits, little_bits, reordered}
use Rattle.term_laws.specs.WorkedReads.{StringSpreads}
use Rattle.term_laws.specs.WorkedRuns.{StoppedReport, OutReport, DisplayReport, DisplayOrder, BadGenerator, BadFilter, GeneratorsNest, RowNoBitstring, AndAlsoRaises, OrElseGives, BadMatch, NoCase, NoIf, ImproperList, GuardHides, GuardLimits, GuardFails, ActCosts, NoReceiver, GeneratorSkips, RowsCost, LastRowIsFree, GeneratorDrops, RowsMake}
use Rattle.term_laws.specs.Worked.{KeepsLowestBits, LittleBuilds, LittleMatches, PrefixMatches, PrefixTooLong, NegativeSizeFails, NegativeSizeRaises, TooLongBuild, WrongKindFirst, ShortPart, WideSkips, WideLimits, WideSigned, PairBuilds, PairMatches, OverlongFails, EuroMatches, RepeatCompares, LiteralLimit}

pub keeps_lowest_bits : KeepsLowestBits
unfolding big_bits bit_of little_bits reordered all_bits bit_list bit_in
keeps_lowest_bits = refl

pub little_builds : LittleBuilds
unfolding big_bits bit_of little_bits reordered all_bits bit_list bit_in
little_builds = refl

pub little_matches : LittleMatches
unfolding big_bits bit_of little_bits reordered all_bits bit_list bit_in
little_matches = refl

pub prefix_matches : PrefixMatches
unfolding big_bits bit_of little_bits reordered all_bits bit_list bit_in
prefix_matches = refl

pub prefix_too_long : PrefixTooLong
unfolding big_bits bit_of little_bits reordered all_bits bit_list bit_in
prefix_too_long = refl

pub negative_size_fails : NegativeSizeFails
unfolding big_bits bit_of little_bits reordered all_bits bit_list bit_in
negative_size_fails = refl

pub negative_size_raises : NegativeSizeRaises
unfolding big_bits bit_of little_bits reordered all_bits bit_list bit_in
negative_size_raises = refl

pub too_long_build : TooLongBuild
unfolding big_bits bit_of little_bits reordered all_bits bit_list bit_in
too_long_build = refl

pub wrong_kind_first : WrongKindFirst
unfolding big_bits bit_of little_bits reordered all_bits bit_list bit_in
wrong_kind_first = refl

pub short_part : ShortPart
unfolding big_bits bit_of little_bits reordered all_bits bit_list bit_in
short_part = refl

pub wide_skips : WideSkips
unfolding big_bits bit_of little_bits reordered all_bits bit_list bit_in
wide_skips = refl

pub wide_limits : WideLimits
unfolding big_bits bit_of little_bits reordered all_bits bit_list bit_in
wide_limits = refl

pub wide_signed : WideSigned
unfolding big_bits bit_of little_bits reordered all_bits bit_list bit_in
wide_signed = refl

pub pair_builds : PairBuilds
unfolding big_bits bit_of little_bits reordered all_bits bit_list bit_in
pair_builds = refl

pub pair_matches : PairMatches
unfolding big_bits bit_of little_bits reordered all_bits bit_list bit_in
pair_matches = refl

pub overlong_fails : OverlongFails
unfolding big_bits bit_of little_bits reordered all_bits bit_list bit_in
overlong_fails = refl

pub euro_matches : EuroMatches
unfolding big_bits bit_of little_bits reordered all_bits bit_list bit_in
euro_matches = refl

pub repeat_compares : RepeatCompares
unfolding big_bits bit_of little_bits reordered all_bits bit_list bit_in
repeat_compares = refl

pub literal_limit : LiteralLimit
unfolding big_bits bit_of little_bits reordered all_bits bit_list bit_in
literal_limit = refl

pub generator_skips : GeneratorSkips
unfolding big_bits bit_of little_bits reordered all_bits bit_list bit_in
generator_skips = refl

pub rows_cost : RowsCost
unfolding big_bits bit_of little_bits reordered all_bits bit_list bit_in
rows_cost = refl

pub last_row_is_free : LastRowIsFree
unfolding big_bits bit_of little_bits reordered all_bits bit_list bit_in
last_row_is_free = refl

pub generator_drops : GeneratorDrops
unfolding big_bits bit_of little_bits reordered all_bits bit_list bit_in
generator_drops = refl

pub rows_make : RowsMake
unfolding big_bits bit_of little_bits reordered all_bits bit_list bit_in
rows_make = refl

pub bad_generator : BadGenerator
bad_generator = refl

pub bad_filter : BadFilter
bad_filter = refl

pub generators_nest : GeneratorsNest
generators_nest = refl

pub row_no_bitstring : RowNoBitstring
row_no_bitstring = refl

pub and_also_raises : AndAlsoRaises
and_also_raises = refl

pub or_else_gives : OrElseGives
or_else_gives = refl

pub bad_match : BadMatch
bad_match = refl

pub no_case : NoCase
no_case = refl

pub no_if : NoIf
no_if = refl

pub improper_list : ImproperList
improper_list = refl

pub guard_hides : GuardHides
guard_hides = refl

pub guard_limits : GuardLimits
guard_limits = refl

pub guard_fails : GuardFails
guard_fails = refl

pub act_costs : ActCosts
act_costs = refl

pub no_receiver : NoReceiver
no_receiver = refl

pub stopped_report : StoppedReport
unfolding digits
stopped_report = refl

pub out_report : OutReport
unfolding digits
out_report = refl

pub display_report : DisplayReport
unfolding digits
display_report = refl

pub display_order : DisplayOrder
unfolding digits
display_order = refl

pub string_spreads : StringSpreads
unfolding big_bits bit_of little_bits reordered all_bits bit_list bit_in
string_spreads = refl
