mod Goes
mod Polled
mod Built
mod Runs
mod Rows
