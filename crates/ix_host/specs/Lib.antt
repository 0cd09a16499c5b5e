pub mod OnHost
