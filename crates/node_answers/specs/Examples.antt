-- Worked examples on document 01's table T. They stand beside the definitions, and the laws name this module, so that a wrong
-- definition is met here first.
use Rattle.std.specs.Prelude.{◌≡◌, refl, true, false, List, [], ◌∷◌, map, ℕ, replicate}
use Rattle.lists.specs.Lists.{padded}
use Rattle.orders.specs.Orders.{mask}
use Rattle.stops.specs.Bounds.{ends_away}
use Rattle.stops.specs.Examples.{computed_day}
use Rattle.stops.specs.Code.{empty_record}
use Rattle.stops.specs.declared.node_record.Record.{Record}
use Rattle.records.specs.Records.{stop_at}
use Rattle.answer.specs.Checks.{cause₁, cause₂, cause₃, no_such_bound, cause₄, cause₅, table_cause, job_cause}
use Rattle.answer.specs.ChargeCases.{charged_t}
use Rattle.answer.specs.declared.Job.{Job}
use Rattle.node_answers.specs.Nodes.{flown_stops, is_record_of, is_node}
use Rattle.node_answers.specs.Answers.{is_inside, no_record, record_at, found, verdict, flown_at, no_figures, figures_by, figures}
use Rattle.node_answers.specs.Answers.{fits, longer, extension, extend_at}

-- the record of 21: two stops, bits 0 and 1, path cost 7 + 8; stop 2 stands in the lowest four bits, stop 1 in the next
two_one : Record
unfolding computed_day empty_record mask padded
    cause₁ cause₂ cause₃ no_such_bound cause₄ cause₅ ends_away table_cause job_cause stop_at flown_stops is_record_of is_node is_inside record_at found verdict flown_at no_figures
    figures_by figures fits longer extension extend_at
two_one = record { size = 2; set = 3; path = 15; bound = 15; first = 1; second = 0 }

-- ten stops: the ninth and tenth stand in the second word, 8 + 16 · 9
ten_stops : Record
ten_stops = record { size = 10; set = 1023; path = 10; bound = 10; first = 0x7654_3210; second = 152 }

-- document 01's table, and the job with it that goes by a bound
table_t : List ℕ
table_t = 0 ∷ 4 ∷ 7 ∷ 9 ∷ 5 ∷ 0 ∷ 2 ∷ 6 ∷ 3 ∷ 8 ∷ 0 ∷ 1 ∷ 6 ∷ 5 ∷ 4 ∷ 0 ∷ []

job_t : ℕ → Job
job_t bound = record { n = 3; selection = 0; rules = 0; bound = bound }

-- the stops in flown order
stops_of_21 : flown_stops two_one ≡ 2 ∷ 1 ∷ []
unfolding two_one
stops_of_21 = refl

stops_of_ten : flown_stops ten_stops ≡ 1 ∷ 2 ∷ 3 ∷ 4 ∷ 5 ∷ 6 ∷ 7 ∷ 8 ∷ 9 ∷ 10 ∷ []
unfolding two_one ten_stops
stops_of_ten = refl

-- zeros behind
places_of_21 : (flown_at true two_one).stops ≡ 2 ∷ 1 ∷ 0 ∷ 0 ∷ 0 ∷ 0 ∷ 0 ∷ 0 ∷ 0 ∷ 0 ∷ 0 ∷ 0 ∷ 0 ∷ 0 ∷ 0 ∷ 0 ∷ []
unfolding two_one
places_of_21 = refl

-- nodes: 21, ten stops of sixteen, and e
nodes : is_node 3 two_one ∷ is_node 16 ten_stops ∷ is_node 1 empty_record ∷ [] ≡ true ∷ true ∷ true ∷ []
unfolding two_one ten_stops
nodes = refl

-- n is 1 to 16
few_stops : map (λ n. is_node n empty_record) (0 ∷ 1 ∷ 16 ∷ 17 ∷ []) ≡ false ∷ true ∷ true ∷ false ∷ []
unfolding two_one
few_stops = refl

-- no nodes: a size that is not the number of stops in the set, a set that is not that of the stops of the order, a stop twice, unused
-- bits that are not 0 in either number of the order, and a stop above n
other-size :
    is_node 3 (record { size = 1; set = 3; path = 15; bound = 15; first = 1; second = 0 })
    ∷ map (λ k. is_node 16 (record { size = k; set = 65535; path = 0; bound = 0; first = 0x7654_3210; second = 0xfedc_ba98 })) (16 ∷ 17 ∷ [])
    ≡ false ∷ true ∷ false ∷ []
unfolding two_one
other-size = refl

other-set : is_node 3 (record { size = 2; set = 5; path = 15; bound = 15; first = 1; second = 0 }) ≡ false
unfolding two_one
other-set = refl

stop_twice :
    map (λ k. is_node 3 (record { size = k; set = 1; path = 4; bound = 4; first = 0; second = 0 })) (1 ∷ 2 ∷ []) ≡ true ∷ false ∷ []
unfolding two_one
stop_twice = refl

unused_bits :
    is_node 3 (record { size = 2; set = 3; path = 15; bound = 15; first = 257; second = 0 })
    ∷ is_node 3 (record { size = 2; set = 3; path = 15; bound = 15; first = 1; second = 1 }) ∷ [] ≡ false ∷ false ∷ []
unfolding two_one
unused_bits = refl

stop_above_n : map (λ n. is_node n (record { size = 1; set = 4; path = 9; bound = 9; first = 2; second = 0 })) (2 ∷ 3 ∷ []) ≡ false ∷ true ∷ []
unfolding two_one
stop_above_n = refl

-- a run of two records: the last is inside, the next is not, and is zeros
second_record : found (empty_record ∷ two_one ∷ []) 1 ≡ record { inside = true; found = two_one }
unfolding two_one
second_record = refl

past_the_end : found (empty_record ∷ two_one ∷ []) 2 ≡ record { inside = false; found = no_record }
unfolding two_one
past_the_end = refl

-- past the end there is no node, though zeros are e's record
verdicts : (verdict true empty_record 3).node ∷ (verdict false empty_record 3).node ∷ [] ≡ true ∷ false ∷ []
unfolding two_one
verdicts = refl

-- 21 in T: path cost 7 + 8; plain adds nothing; close adds the leg 1 to 3, 6, and the leg home from 3, 6
figures-plain : figures true two_one (job_t 0) table_t ≡ record { inside = true; number = 0; node = true; path = 15; bound = 15 }
unfolding two_one table_t job_t
figures-plain = refl

figures-close : figures true two_one (job_t 1) table_t ≡ record { inside = true; number = 0; node = true; path = 15; bound = 27 }
unfolding two_one table_t job_t
figures-close = refl

-- with charges of 2 at home and of 10, 20 and 40 at the stops (request A.4): both stops' in the path, every place's in the close bound
figures-charged : figures true two_one (job_t 1) charged_t ≡ record { inside = true; number = 0; node = true; path = 45; bound = 99 }
unfolding two_one job_t charged_t
figures-charged = refl

-- on a day that ends away (request A.5) the bound of 213 is its path cost, plain and close: 45, and 46 to stop 3; close of 21, 46 more than its path cost
two_one_three : Record
two_one_three = record { size = 3; set = 7; path = 91; bound = 91; first = 0x201; second = 0 }

figures_away :
    map (λ bound. (figures true two_one_three (job_t bound) charged_t).bound) (0 ∷ 1 ∷ 2 ∷ 3 ∷ [])
    ≡ 99 ∷ 99 ∷ 91 ∷ 91 ∷ []
unfolding two_one two_one_three job_t charged_t
figures_away = refl

figures_close_away : figures true two_one (job_t 3) charged_t ≡ record { inside = true; number = 0; node = true; path = 45; bound = 91 }
unfolding two_one job_t charged_t
figures_close_away = refl

charge-refused :
    (figures true two_one (record { n = 1; selection = 0; rules = 0; bound = 1 }) (0 ∷ 3 ∷ 5 ∷ 100_001 ∷ [])).number ≡ 3
unfolding two_one
charge-refused = refl

-- refused by 1 and 2, by 3, and by 4 for a bound, a selection and rules that there are not
refusals :
    map (λ n. (figures true two_one (record { n = n; selection = 0; rules = 0; bound = 1 }) table_t).number) (0 ∷ 17 ∷ 2 ∷ [])
    ≡ 1 ∷ 1 ∷ 2 ∷ []
unfolding two_one table_t
refusals = refl

dear-leg :
    (figures true two_one (record { n = 1; selection = 0; rules = 0; bound = 1 }) (0 ∷ 1_000_001 ∷ 5 ∷ 0 ∷ [])).number ≡ 3
unfolding two_one
dear-leg = refl

no_choice :
    (figures true two_one (job_t 4) table_t).number
    ∷ (figures true two_one (record { n = 3; selection = 4; rules = 0; bound = 1 }) table_t).number
    ∷ (figures true two_one (record { n = 3; selection = 0; rules = 16; bound = 1 }) table_t).number ∷ [] ≡ 4 ∷ 4 ∷ 4 ∷ []
unfolding two_one table_t job_t
no_choice = refl

refused-zeros : figures true two_one (job_t 4) table_t ≡ record { inside = true; number = 4; node = false; path = 0; bound = 0 }
unfolding two_one table_t job_t
refused-zeros = refl

-- no figures for a record that is no node, and none past the end
no_node_zeros :
    figures true (record { size = 2; set = 5; path = 15; bound = 15; first = 1; second = 0 }) (job_t 0) table_t
    ≡ record { inside = true; number = 0; node = false; path = 0; bound = 0 }
unfolding two_one table_t job_t
no_node_zeros = refl

outside_zeros : figures false empty_record (job_t 0) table_t ≡ record { inside = false; number = 0; node = false; path = 0; bound = 0 }
unfolding two_one table_t job_t
outside_zeros = refl

-- 21 extended by 3, whose leg from 1 costs 6: bit 2, path cost 15 + 6, and 2 in the third four bits; the bound is not yet known
longer_213 : extension true two_one 3 6 ≡ record {
  inside = true;
  fits = true;
  after = record { size = 3; set = 7; path = 21; bound = 0; first = 513; second = 0 };
}
unfolding two_one
longer_213 = refl

-- the eleventh stop stands in the second word; the ninth begins it
longer_second : longer ten_stops 12 5 ≡ record { size = 11; set = 3071; path = 15; bound = 0; first = 0x7654_3210; second = 0xb98 }
unfolding two_one ten_stops
longer_second = refl

longer_ninth :
    longer (record { size = 8; set = 255; path = 8; bound = 9; first = 0x7654_3210; second = 0 }) 16 0
    ≡ record { size = 9; set = 33023; path = 8; bound = 0; first = 0x7654_3210; second = 15 }
unfolding two_one
longer_ninth = refl

-- the stops that 21 leaves fit, whatever n will be; 0, its own and those above 16 do not
fitting-stops :
    map (λ s. fits two_one s 6) (0 ∷ 1 ∷ 2 ∷ 3 ∷ 16 ∷ 17 ∷ []) ≡ false ∷ false ∷ false ∷ true ∷ true ∷ false ∷ []
unfolding two_one
fitting-stops = refl

-- with sixteen stops there is no room; and nothing is added to numbers that are no node's: another size, another set, unused bits not 0
no_room :
    map (λ s. fits (record { size = 16; set = 65535; path = 0; bound = 0; first = 0x7654_3210; second = 0xfedc_ba98 }) s 0) (1 ∷ 16 ∷ 17 ∷ [])
    ≡ false ∷ false ∷ false ∷ []
unfolding two_one
no_room = refl

not_extended :
    fits (record { size = 3; set = 3; path = 15; bound = 15; first = 1; second = 0 }) 3 6
    ∷ fits (record { size = 2; set = 65539; path = 15; bound = 15; first = 1; second = 0 }) 3 6
    ∷ fits (record { size = 2; set = 3; path = 15; bound = 15; first = 257; second = 0 }) 3 6 ∷ [] ≡ false ∷ false ∷ false ∷ []
unfolding two_one
not_extended = refl

-- the path cost may become the largest number of 32 bits
dearest-path : map (fits two_one 3) (4_294_967_280 ∷ 4_294_967_281 ∷ []) ≡ true ∷ false ∷ []
unfolding two_one
dearest-path = refl

-- what does not fit is as it was, and past the end there are zeros
as_it_was : extension true two_one 2 6 ≡ record { inside = true; fits = false; after = two_one }
unfolding two_one
as_it_was = refl

none-extended : extension false empty_record 2 6 ≡ record { inside = false; fits = false; after = no_record }
unfolding two_one
none-extended = refl

-- in a run of two records the second is extended; where the stop does not fit, and past the end, nothing is changed
run-extended :
    extend_at (two_one ∷ two_one ∷ []) 1 3 6
    ≡ two_one ∷ record { size = 3; set = 7; path = 21; bound = 0; first = 513; second = 0 } ∷ []
unfolding two_one
run-extended = refl

run_stays : map (λ i. extend_at (two_one ∷ ten_stops ∷ []) i 1 6) (0 ∷ 1 ∷ 2 ∷ []) ≡ replicate 3 (two_one ∷ ten_stops ∷ [])
unfolding two_one ten_stops
run_stays = refl
