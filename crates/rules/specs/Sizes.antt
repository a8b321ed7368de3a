-- Document 01, "Sizes": each limit once, by name.
use Rattle.std.specs.Prelude.{ℕ}

-- the most bytes of a job's text, and of a plan's that is read back
abbrev pub text_most : ℕ
text_most = 65535

-- the greatest number that a field of a text may say ("Job text and plan text")
abbrev pub number_most : ℕ
number_most = 65535

-- nodes are 1 to this
abbrev pub nodes_most : ℕ
nodes_most = 1024

abbrev pub links_most : ℕ
links_most = 4096

abbrev pub packets_most : ℕ
packets_most = 1024

-- hops of one path are 1 to this (the 1 by document 02, request 3)
abbrev pub path_most : ℕ
path_most = 255

-- steps from one hop to the next ("The network and its steps")
abbrev pub delay_most : ℕ
delay_most = 1

-- hops of all paths together
abbrev pub hops_most : ℕ
hops_most = 16384

-- a start that is handed in ("Refusals and their order", 12)
abbrev pub start_most : ℕ
start_most = 32767

-- what no answer exceeds: a start that is found, a plan's bytes, and a lead on either side of zero
abbrev pub start_found_most : ℕ
start_found_most = 16384

abbrev pub plan_most : ℕ
plan_most = 19473

abbrev pub lead_most : ℕ
lead_most = 33021
